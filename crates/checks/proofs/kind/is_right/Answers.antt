-- `kind::is_right`: a content shorter than its check has none that is right; of a longer one the bytes after the front are compared with the check
-- of the front.
-- Assumes nothing.
use mathlib.Core.Path.{sym, ap, ◌∙◌}
use mathlib.Core.List.{[], ◌∷◌}
use Prim.Native.Nat.{ℕ}
use native.Mathlib.Omega.{arith}
use Rattle.checks.specs.Check.{check_of}
use Rattle.checks.proofs.Laws.Fcs.{low_first}
use Rattle.checks.proofs.Laws.Right.{right-none, right-compared}
use Rattle.checks.proofs.kind.is_right.Goals as goal

pub returns-in_default : goal.returns-in_default
returns-in_default c =
    let a = c.args in
    sym (right-none a.check a.content.now (omega arith))

pub returns-in-Fcs : goal.returns-in-Fcs
unfolding check_of
returns-in-Fcs c =
    let a = c.args in
    let e = c.in-Fcs.is in
    right-compared a.check a.content.now c.in-Some.front _ _ _ (omega arith) c.split_at.ensures.front c.split_at.ensures.back
    (rw e (c.as_slice.ensures ∙ c.to_le_bytes.ensures ∙ low_first c.split_at.result.0.now _ (omega (arith, c.fcs.ensures)))) c.eq.ensures

pub returns-in-Sum : goal.returns-in-Sum
unfolding check_of
returns-in-Sum c =
    let a = c.args in
    let e = c.in-Sum.is in
    right-compared a.check a.content.now c.in-Some.front _ _ _ (omega arith) c.split_at.ensures.front c.split_at.ensures.back
    (rw e (c.as_slice-in-Sum.ensures ∙ ap (λ (v : ℕ). v ∷ []) c.sum.ensures)) c.eq-in-Sum.ensures
