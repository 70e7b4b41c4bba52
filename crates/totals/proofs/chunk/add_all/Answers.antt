-- `chunk::add_all`: at each turn, what is left of the chunk gives, from the totals so far, what the whole chunk gives from the first.
-- Assumes nothing.
use mathlib.Core.Path.{◌≡◌, sym, ap, subst⁻¹, ◌∙◌}
use mathlib.Core.List.{[]}
use native.Mathlib.Omega.{arith}
use Rattle.std.proofs.Common.{rules}
use Rattle.std.proofs.lemmas.List.{nil_from_length}
use Rattle.std.specs.Slice.Iter.{chunks_rest}
use Rattle.totals_spec.specs.declared.totals.Totals.{Totals}
use Rattle.totals_spec.specs.Adding.{totals_after}
use Rattle.totals_spec.proofs.Laws.Adding.{Fine, totals-none, totals-append, fine-is, fine-good, totals-fine}
use Rattle.totals.proofs.chunk.add_all.Goals as goal

pub loop-part-init : goal.loop-part-init
loop-part-init c =
    (search rules, tt, search rules, record { fine = fine-is c.args.totals (omega arith) c.requires; same = ap (totals_after c.args.totals) (search rules) })

pub add_part-totals-requires-clause-good : goal.add_part-totals-requires-clause-good
add_part-totals-requires-clause-good c = fine-good c.loop-part.invariant.3.fine

pub loop-part-preserved : goal.loop-part-preserved
loop-part-preserved c =
    let steps = c.in-Some.ensures.steps in
    let so_far = c.loop-part.invariant.3 in
    let part = c.in-Some.part.now in
    let left = chunks_rest c.next.new.self in (
      search rules,
      tt,
      steps.0 ∙ c.loop-part.invariant.2,
      record {
        fine = subst⁻¹ Fine c.add_part-totals.ensures (totals-fine so_far.fine part);
        same =
            ap (λ (t : Totals). totals_after t left) c.add_part-totals.ensures
            ∙ sym (totals-append c.loop-part.totals part left)
            ∙ ap (totals_after c.loop-part.totals) (sym steps.1.0)
            ∙ so_far.same;
      },
    )

pub returns : goal.returns
returns c =
    let none : chunks_rest c.loop-part.part-iterator ≡ [] = nil_from_length _ c.in-None.ensures.steps.1.0 in
    sym (totals-none _) ∙ ap (totals_after _) (sym none) ∙ c.loop-part.invariant.3.same
