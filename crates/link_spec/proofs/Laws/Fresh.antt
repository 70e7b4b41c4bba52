-- Fresh receivers: which stations have one, and that it is outside a frame, in a state that no call refuses.
-- Assumes nothing.
use mathlib.Core.Path.{◌≡◌, refl, sym, ap, subst⁻¹, ◌∙◌}
use mathlib.Core.Bool.{Bool, true, false, cond, true≢false, not-eq-not}
use Prim.Native.Nat.{ℕ}
use native.Mathlib.Omega.{arith}
use Rattle.std.specs.Prelude.{Ok}
use Rattle.ground.specs.declared.refusal.Refusal.TheVariants.{BadAddress}
use Rattle.ground.specs.Refusals.{number}
use Rattle.ground.proofs.Laws.Choice.{by-test}
use Rattle.link_spec.specs.declared.station.Station.{Station}
use Rattle.link_spec.specs.declared.station.Station.TheVariants.{Point, Addressed}
use Rattle.link_spec.specs.declared.receiver.Receiver.{Receiver}
use Rattle.link_spec.specs.Address.{is_station, NoStation}
use Rattle.link_spec.specs.Station.{has_address}
use Rattle.link_spec.specs.Receiving.{fresh_receiver, Made, fresh_made, bad_receiver, NewTable, bad_address, fresh}
use Rattle.link_spec.specs.Hearing.{IsFresh, point, addressed}
use Rattle.link_spec.proofs.Laws.Address.{no-station-is}
use Rattle.link_spec.proofs.Laws.Fit.{Fit, fresh-fit, fit-good}
use Rattle.link_spec.proofs.Laws.View.{nowhere, seen}

-- row 3 of the refusal table: a new station given 7F or FD..FF, and only then
pub refuses-new : (own : ℕ) → NewTable own (fresh_made own)
unfolding fresh_made
refuses-new own =
    by-test (λ (t : Bool). NewTable own (record { refusal = cond t 0 (number BadAddress); receiver = fresh_receiver (Addressed own) }))
    (is_station own) (λ good. fresh (λ none. true≢false (sym good ∙ (no-station-is own).1 none))) (λ bad. bad_address ((no-station-is own).0 bad))

pub new-only : {own : ℕ} {m : Made} → NewTable own m → m ≡ fresh_made own
unfolding fresh_made
new-only {own} (bad_address none) = rw ((no-station-is own).1 none)
new-only {own} (fresh some) = rw ((not-eq-not {b = true}).0 (λ (bad : is_station own ≡ false). some ((no-station-is own).0 bad)))

-- refused or not, what comes with it
pub receiver-made : (own : ℕ) → (fresh_made own).receiver ≡ fresh_receiver (Addressed own)
unfolding fresh_made
receiver-made own = refl

-- the point line has one, and so has every station
pub fresh-point : IsFresh Point (fresh_receiver Point)
fresh-point = point refl

pub fresh-station : (own : ℕ) → (NoStation own → ⊥) → IsFresh (Addressed own) (fresh_receiver (Addressed own))
unfolding fresh_made
fresh-station own good =
    let is : is_station own ≡ true = (not-eq-not {b = true}).0 (λ none. good ((no-station-is own).0 none)) in
    addressed (Ok (fresh_receiver (Addressed own))) (rw is) refl

-- a receiver of this station that no row of the refusal table names, outside a frame
pub record Begins (station : Station) (s : Receiver) : Type 0 where
  pub good : has_address station ≡ true
  pub fit : Fit station s
  pub nowhere : seen s ≡ nowhere

fresh_on : (station : Station) → has_address station ≡ true → Begins station (fresh_receiver station)
fresh_on station good = record { good = good; fit = fresh-fit station; nowhere = refl }

accepted : (t : Bool) → cond t 0 (number BadAddress) ≡ 0 → t ≡ true
accepted true e = refl
accepted false e = absurd (omega arith)

pub fresh-begins : {station : Station} {s : Receiver} → IsFresh station s → Begins station s
unfolding fresh_made
fresh-begins (point e) = subst⁻¹ (Begins Point) e (fresh_on Point refl)
fresh-begins (addressed r {own} says taken) =
    let good = accepted (is_station own) (sym (ap (λ (m : Made). m.refusal) says) ∙ taken) in
    subst⁻¹ (Begins (Addressed own)) (ap (λ (m : Made). m.receiver) says) (fresh_on (Addressed own) good)

-- no row of the refusal table names it
pub fresh-good : {station : Station} {s : Receiver} → IsFresh station s → bad_receiver s ≡ false
fresh-good fr = let b = fresh-begins fr in fit-good b.good b.fit
