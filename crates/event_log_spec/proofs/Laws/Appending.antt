-- What the call that makes an entry answers, by the rows of its table, and its refusal.
-- Assumes nothing.
use mathlib.Core.Path.{◌≡◌, refl, sym, subst⁻¹}
use mathlib.Core.Bool.{Bool, false}
use mathlib.Core.List.{List}
use Prim.Native.Nat.{ℕ}
use Rattle.ground.specs.declared.refusal.Refusal.TheVariants.{BadState as BAD}
use Rattle.std.specs.Prelude.{Err}
use Rattle.ground.specs.Refusals.{Keeps}
use Rattle.ground.proofs.Laws.Choice.{cond-elim, by-test}
use Rattle.event_log_spec.specs.declared.log.Log.{Log}
use Rattle.event_log_spec.specs.Log.{bad_log, BadLog}
use Rattle.event_log_spec.specs.Appending.{Appending, appending, with_entry, appended_to, AppendTable, refuses, appends}
use Rattle.event_log_spec.proofs.Laws.Log.{bad-log, bad-row, good-log, no_row}

pub refuses-bad : {log : Log} (body : List ℕ) → BadLog log → appended_to log body ≡ appending (Err BAD) log
unfolding appended_to
refuses-bad body bad = rw (bad-log bad)

pub appends-to : (log : Log) (body : List ℕ) → bad_log log ≡ false → appended_to log body ≡ record { refusal = 0; log = with_entry log body }
unfolding appended_to
appends-to log body good = rw good

pub append-by-table : (log : Log) (body : List ℕ) → AppendTable log body (appended_to log body)
append-by-table log body =
    by-test (λ (t : Bool). bad_log log ≡ t → AppendTable log body (appended_to log body)) (bad_log log)
    (λ _ bad. subst⁻¹ (AppendTable log body) (refuses-bad body (bad-row log bad)) (refuses (bad-row log bad)))
    (λ _ good. subst⁻¹ (AppendTable log body) (appends-to log body good) (appends (good-log good))) refl

pub append-only : {log : Log} {body : List ℕ} {a : Appending} → AppendTable log body a → a ≡ appended_to log body
append-only {body} (refuses bad) = sym (refuses-bad body bad)
append-only {log} {body} (appends good) = sym (appends-to log body (no_row log good))

-- a refused call leaves the log as before
pub append-keeps : (log : Log) (body : List ℕ) → Keeps (appended_to log body).refusal log (appended_to log body).log
unfolding appended_to
append-keeps log body =
    cond-elim (λ (a : Appending). Keeps a.refusal log a.log) (bad_log log) (λ bad refused. refl) (λ good refused. absurd (refused refl))
