-- A call's statement leaves no choice: two results that it allows are equal. docs/STATEMENTS.md cites these for the call on a chunk and for the
-- report; the others have those of ground.
-- Assumes nothing.
use mathlib.Core.Path.{◌≡◌, sym, ap}
use Rattle.std.specs.Prelude.{Result, Ok, Err}
use Rattle.ground.specs.declared.refusal.Refusal.{Refusal}
use Rattle.ground.proofs.Laws.Refusals.{number-some}
use Rattle.ground.proofs.Laws.Unique.{same, err-injective}
use Rattle.totals_spec.specs.declared.totals.Totals.{Totals}
use Rattle.totals_spec.specs.declared.totals.Report.{Report}
use Rattle.totals_spec.specs.Whole.{Reported}
use Rattle.totals_spec.specs.Adding.{AddedOut, added_out, reported_by}

added-injective : (t : Totals) (r s : Result Totals Refusal) → added_out t r ≡ added_out t s → r ≡ s
added-injective t (Ok a) (Ok b) e = ap (λ (d : AddedOut). Ok d.totals) e
added-injective t (Ok a) (Err w) e = absurd (number-some w (sym (ap (λ (d : AddedOut). d.refusal) e)))
added-injective t (Err v) (Ok b) e = absurd (number-some v (ap (λ (d : AddedOut). d.refusal) e))
added-injective t (Err v) (Err w) e = err-injective v w (ap (λ (d : AddedOut). d.refusal) e)

pub same-added : (t : Totals) {r s : Result Totals Refusal} {d : AddedOut} → added_out t r ≡ d → added_out t s ≡ d → r ≡ s
same-added t {r} {s} p q = added-injective t r s (same p q)

reported-injective : (r s : Result Report Refusal) → reported_by r ≡ reported_by s → r ≡ s
reported-injective (Ok a) (Ok b) e =
    ap (λ (d : Reported). Ok (record { first = d.first; second = d.second; ending = d.ending; records = d.records })) e
reported-injective (Ok a) (Err w) e = absurd (number-some w (sym (ap (λ (d : Reported). d.refusal) e)))
reported-injective (Err v) (Ok b) e = absurd (number-some v (ap (λ (d : Reported). d.refusal) e))
reported-injective (Err v) (Err w) e = err-injective v w (ap (λ (d : Reported). d.refusal) e)

pub same-reported : {r s : Result Report Refusal} {t : Reported} → reported_by r ≡ t → reported_by s ≡ t → r ≡ s
same-reported {r} {s} p q = reported-injective r s (same p q)
