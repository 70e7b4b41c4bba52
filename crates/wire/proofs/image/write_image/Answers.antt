-- `image::write_image`: where the buffer has room for it, start, the stuffing in the part lent from index one on, and stop are the image.
-- Assumes nothing.
use mathlib.Core.Path.{◌≡◌, ap, ap₂, ◌∙◌}
use mathlib.Core.List.{List}
use Prim.Native.Nat.{ℕ, ◌+◌, ◌-◌, ◌≤◌}
use native.Mathlib.Omega.{arith}
use borrow.Rule.Slice.PartMut.{put_mid}
use lib.ListN.{length, set, length-set}
use Rattle.ground.specs.Refusals.{counted}
use Rattle.ground.specs.Laying.{laid}
use Rattle.ground.proofs.Laws.Laying.{laid-part}
use Rattle.wire_spec.specs.Stuffing.{stuffing}
use Rattle.wire_spec.specs.Image.{start, stop, image}
use Rattle.wire_spec.specs.Writing.{leaving}
use Rattle.wire_spec.proofs.Laws.Image.{image-stuffing}
use Rattle.wire_spec.proofs.Laws.Writing.{image-laid, written-whole}
use Rattle.wire.proofs.image.write_image.Goals as goal

pub returns : goal.returns
returns c =
    let content = c.args.content.now in
    let out = c.args.out.now in
    let begun = set out 0 start in
    let room : 2 + length (stuffing content) ≤ length out = omega arith in
    let fits : 1 + length (stuffing content) ≤ length begun = simp length-set (omega arith) in
    let back : put_mid 1 (length begun - 1) begun c.stuff-end.new.room ≡ laid begun 1 (stuffing content)
    = ap (put_mid 1 (length begun - 1) begun) c.stuff-end.ensures.1 ∙ laid-part begun 1 _ fits in
    let h : length (image content) ≤ length out = omega (arith, image-stuffing content) in
    rw (written-whole content out h)
    (ap₂ leaving (ap counted (omega (arith, image-stuffing content)))
    (ap₂ (λ (l : List ℕ) (k : ℕ). set l (1 + k) stop) back c.stuff-end.ensures.0 ∙ image-laid content out h))
