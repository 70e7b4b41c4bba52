-- A call's statement leaves no choice: two results that it allows are equal, and what they leave too. docs/STATEMENTS.md cites one of these, or one of
-- ground's, for each call.
-- Assumes nothing.
use mathlib.Core.Path.{◌≡◌, refl, sym, ap, ◌∙◌}
use mathlib.Core.List.{List}
use Prim.Native.Nat.{ℕ}
use Rattle.std.specs.Prelude.{Result, Ok, Err}
use Rattle.ground.specs.declared.refusal.Refusal.{Refusal}
use Rattle.ground.proofs.Laws.Refusals.{number-some}
use Rattle.ground.proofs.Laws.Unique.{same, same-tally, err-injective}
use Rattle.event_log_spec.specs.declared.log.Log.{Log}
use Rattle.event_log_spec.specs.Appending.{Appending, appending, Appends}
use Rattle.event_log_spec.specs.Answering.{Input, Answering, answering, Answers}

appending-injective : (r s : Result (Unit {0}) Refusal) (k l : Log) → appending r k ≡ appending s l → r ≡ s
appending-injective (Ok done) (Ok also) k l e = refl
appending-injective (Ok done) (Err w) k l e = absurd (number-some w (sym (ap (λ (a : Appending). a.refusal) e)))
appending-injective (Err v) (Ok done) k l e = absurd (number-some v (ap (λ (a : Appending). a.refusal) e))
appending-injective (Err v) (Err w) k l e = err-injective v w (ap (λ (a : Appending). a.refusal) e)

log-appending : (r : Result (Unit {0}) Refusal) (k : Log) → (appending r k).log ≡ k
log-appending (Ok done) k = refl
log-appending (Err why) k = refl

-- of a new entry
pub same-appended : (log : Log) (body : List ℕ) {r s : Result (Unit {0}) Refusal} {k l : Log} → Appends log body r k → Appends log body s l → (r ≡ s) × (k ≡ l)
same-appended log body {r} {s} {k} {l} d f =
    let e : appending r k ≡ appending s l = same d f in
    (appending-injective r s k l e, sym (log-appending r k) ∙ ap (λ (a : Appending). a.log) e ∙ log-appending s l)

-- of an answer to an event, and of the out buffer
pub same-answered : (log : Log) (i : Input) (out : List ℕ) {r s : Result ℕ Refusal} {k l : Log} {o p : List ℕ} → Answers log i out r k o → Answers log i out s l p
    → (r ≡ s) × (k ≡ l) × (o ≡ p)
same-answered log i out {r} {s} {k} {l} {o} {p} d f =
    let e : answering r k o ≡ answering s l p = same d f in
    (same-tally (ap (λ (a : Answering). a.after.tally) d) (ap (λ (a : Answering). a.after.tally) f), ap (λ (a : Answering). a.log) e, ap (λ (a : Answering). a.after.out) e)
