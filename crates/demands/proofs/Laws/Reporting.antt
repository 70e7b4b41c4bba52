-- What the report of a tape promises holds.
-- Assumes nothing.
use mathlib.Core.Path.{◌≡◌, ap, subst⁻¹, ◌∙◌}
use mathlib.Core.List.{List}
use Prim.Native.Nat.{ℕ}
use Rattle.std.specs.Prelude.{Result}
use Rattle.ground.specs.declared.refusal.Refusal.{Refusal}
use Rattle.tape_spec.specs.Whole.{parts, fresh_receivers, entries}
use Rattle.tape_spec.proofs.Laws.Frames.{frames-shown}
use Rattle.totals_spec.specs.declared.totals.Totals.{Totals}
use Rattle.totals_spec.specs.Adding.{AddedOut, added_out, added}
use Rattle.totals_spec.proofs.Laws.Adding.{Fine, fine-good, fresh-fine, totals-fine, adds}
use Rattle.totals_spec.proofs.Laws.Sessions.{report-is, report-some, too_long, report-rest, report-part, report-bounded, report-ranked, report-agrees}
use Rattle.demands.specs.Going as going
use Rattle.demands.specs.Going.{ReachedTotals}
use Rattle.demands.specs.Reporting.{Request1}

reached-fine : {t : Totals} → ReachedTotals t → Fine t
reached-fine (going.fresh is) = subst⁻¹ Fine is fresh-fine
reached-fine (going.after {t} was chunk r says) =
    let fine = reached-fine was in
    subst⁻¹ Fine (ap (λ (d : AddedOut). d.totals) (says ∙ adds t chunk (fine-good fine))) (totals-fine fine chunk)

totals-go-on : {t : Totals} → ReachedTotals t → (chunk : List ℕ) (r : Result Totals Refusal) → added_out t r ≡ added t chunk
    → (added_out t r).refusal ≡ 0
totals-go-on {t} was chunk r says = ap (λ (d : AddedOut). d.refusal) (says ∙ adds t chunk (fine-good (reached-fine was)))

pub request-1 : Request1
request-1 =
    record {
      whole = report-is;
      exact = λ {bytes} session fits. record {
        fine = report-rest session fits;
        all = entries 0 fresh_receivers (parts 0 bytes).records;
        shows = frames-shown (parts 0 bytes).records;
        agrees = report-agrees session fits;
        lines = report-part session fits;
        bounded = report-bounded session fits;
        ranked = report-ranked session fits;
      };
      refused = too_long;
      some = report-some;
      goes_on = totals-go-on;
    }
