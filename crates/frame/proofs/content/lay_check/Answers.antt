-- `content::lay_check`: each arm lays the bytes of the check that it names, and there is room for them.
-- Assumes nothing.
use mathlib.Core.Path.{ap, ◌∙◌}
use mathlib.Core.List.{[], ◌∷◌}
use Prim.Native.Nat.{ℕ, ◌+◌, ◌-◌}
use native.Mathlib.Omega.{arith}
use borrow.Rule.Slice.PartMut.{put_mid}
use lib.ListN.{take}
use Rattle.ground.specs.Laying.{laid}
use Rattle.ground.proofs.Laws.Laying.{set-laid, laid-piece}
use Rattle.checks.specs.Fcs.{fcs_bytes}
use Rattle.checks.specs.Check.{check_of, check_length}
use Rattle.checks.proofs.Laws.Fcs.{low_first}
use Rattle.frame.proofs.content.lay_check.Goals as goal

pub returns-in-Fcs : goal.returns-in-Fcs
unfolding check_of fcs_bytes
returns-in-Fcs c =
    let a = c.args in
    let e = c.in-Fcs.is in
    rw e
    (ap (put_mid a.front (a.front + 2 - a.front) a.content.now)
    (c.copy_from_slice.ensures.after ∙ c.to_le_bytes.ensures ∙ low_first (take a.front a.content.now) _ (omega (arith, c.fcs-value.ensures)))
    ∙ laid-piece a.content.now a.front (fcs_bytes (take a.front a.content.now)) (omega (arith, c.requires, ap check_length e)))

pub returns-in-Sum : goal.returns-in-Sum
unfolding check_of
returns-in-Sum c =
    let a = c.args in
    let e = c.in-Sum.is in
    rw e
    (set-laid a.content.now a.front c.sum.result (omega (arith, c.requires, ap check_length e))
    ∙ ap (λ (v : ℕ). laid a.content.now a.front (v ∷ [])) c.sum.ensures)
