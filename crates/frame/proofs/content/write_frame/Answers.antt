-- `content::write_frame`: head, data and check are laid one after the other, so the front of the array is the content, and its image is written.
-- Assumes nothing.
use mathlib.Core.Path.{◌≡◌, sym, ap, ap₂, ◌∙◌}
use mathlib.Core.List.{List, ◌++◌}
use Prim.Native.Nat.{ℕ, ◌+◌, ◌-◌, ◌≤◌}
use native.Mathlib.Omega.{arith}
use borrow.Rule.Slice.PartMut.{put_mid}
use lib.ListN.{length, take, length-append}
use Rattle.ground.specs.Laying.{laid}
use Rattle.ground.proofs.Laws.Laying.{length-laid, laid-front, laid-piece, take-front, laid-after}
use Rattle.checks.specs.declared.kind.Check.{Check}
use Rattle.checks.specs.Check.{check_of, check_length, with_check}
use Rattle.checks.proofs.Laws.Check.{length-with_check}
use Rattle.wire_spec.specs.Writing.{image_written}
use Rattle.frame.proofs.content.write_frame.Goals as goal

-- head and data, each copied to its part of an array
front-laid : (l head «data» : List ℕ) {h d : List ℕ} → length head + length «data» ≤ length l → h ≡ head → d ≡ «data»
    → put_mid (length head) (length head + length «data» - length head) (put_mid 0 (length head) l h) d ≡ laid l 0 (head ++ «data»)
front-laid l head «data» {h} {d} room eh ed =
    let begun : put_mid 0 (length head) l h ≡ laid l 0 head = ap (put_mid 0 (length head) l) eh ∙ sym (laid-front l head) in
    ap₂ (put_mid (length head) (length head + length «data» - length head)) begun ed
    ∙ laid-piece (laid l 0 head) (length head) «data» (omega (arith, length-laid l 0 head (omega arith)))
    ∙ laid-after l head «data»

-- the check laid after a front that was laid: up to the check's end, the content with its check
with_check-laid : (l : List ℕ) (check : Check) (front : List ℕ) {y z : List ℕ} {k n : ℕ} → y ≡ laid l 0 front → k ≡ length front
    → z ≡ laid y k (check_of check (take k y)) → n ≡ k + check_length check → take n z ≡ with_check check front
unfolding with_check
with_check-laid l check front ey ek ez en =
    rw (en, ez, ey, ek, take-front l front, laid-after l front (check_of check front), ← length-with_check check front)
    (take-front l (front ++ check_of check front))

pub returns : goal.returns
returns c =
    let a = c.args in
    let front = front-laid _ a.head.now a.«data».now (omega (arith, c.requires)) c.copy_from_slice.ensures.after c.copy_from_slice-2.ensures.after in
    let end = ap (λ (n : ℕ). length a.head.now + length a.«data».now + n) c.check_length.ensures in
    c.write_image.ensures
    ∙ ap (λ (l : List ℕ). image_written l a.out.now)
    (with_check-laid _ a.check (a.head.now ++ a.«data».now) front (sym (length-append a.head.now a.«data».now)) c.lay_check.ensures end)
