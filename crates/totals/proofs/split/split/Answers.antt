-- `split::split`: the arm says which byte is next, and a body is the first of its line, before what `split_records` lays after it.
-- Assumes nothing.
use mathlib.Core.Path.{refl, ap, ◌∙◌}
use mathlib.Core.Logic.{⊎_elim}
use native.Mathlib.Omega.{arith}
use lib.Seq.{take-suc-set}
use Rattle.tape_spec.specs.declared.tape.Line.TheVariants.{Point, Addressed}
use Rattle.tape_spec.specs.declared.tape.Next.TheVariants.{Body}
use Rattle.tape_spec.specs.Taping.{is_over}
use Rattle.totals_spec.proofs.Laws.Chunks.{chunk-over}
use Rattle.totals.proofs.Laws.Splitting.{none_left, none-heard, after-body}
use Rattle.totals.proofs.split.split.Goals as goal

pub returns-in_default-clause-heard : goal.returns-in_default-clause-heard
returns-in_default-clause-heard c =
    let a = c.args in
    none-heard a.records a.next a.part.now a.point.now a.addressed.now
    (none_left a.records a.next a.part.now 0 (omega (arith, c.in_default.ensures.cases)))

pub returns-in-Body-Point-clause-heard : goal.returns-in-Body-Point-clause-heard
returns-in-Body-Point-clause-heard c =
    let a = c.args in
    let (begins, long) = c.in-Some.ensures.cases in
    c.split_records-in-Body-Point.ensures.heard
    ∙ after-body Point a.records _ _ begins (c.in-Body-Point.is ∙ ap Body (rw c.in-Body-Point.is at c.in-Body-Point.field-0-is))
    (take-suc-set a.point.now 0 _ (omega (arith, long))) refl

pub returns-in-Body-Addressed-clause-heard : goal.returns-in-Body-Addressed-clause-heard
returns-in-Body-Addressed-clause-heard c =
    let a = c.args in
    let (begins, long) = c.in-Some.ensures.cases in
    c.split_records-in-Body-Addressed.ensures.heard
    ∙ after-body Addressed a.records _ _ begins (c.in-Body-Addressed.is ∙ ap Body (rw c.in-Body-Addressed.is at c.in-Body-Addressed.field-0-is)) refl
    (take-suc-set a.addressed.now 0 _ (omega (arith, long)))

pub returns-in-Bad-clause-heard : goal.returns-in-Bad-clause-heard
returns-in-Bad-clause-heard c =
    let a = c.args in
    none-heard a.records a.next a.part.now a.point.now a.addressed.now
    (chunk-over a.part.now a.records a.next (⊎_elim (ap is_over) (ap is_over) c.in-Bad.is))
