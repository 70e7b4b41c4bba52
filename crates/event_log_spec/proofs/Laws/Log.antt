-- The bad records are those of row 4 of the refusal table.
-- Assumes nothing.
use mathlib.Core.Path.{◌≡◌, refl, sym, ◌∙◌}
use mathlib.Core.Bool.{Bool, true, false, ◌||◌, or-true, true≢false}
use Prim.Native.Nat.{◌≤◌, ◌<◌}
use lib.Dec.{ltb, leb}
use borrow.Author.Tests.{ltb-true, ltb-false, lt-ltb, leb-true, leb-false, le-leb}
use Rattle.ground.proofs.Laws.Choice.{by-test, or_elim, or-none}
use Rattle.event_log_spec.specs.declared.log.Log.{Log}
use Rattle.event_log_spec.specs.Limits.{most_held}
use Rattle.event_log_spec.specs.Log.{bad_log, BadLog, held_over, waiting_over, start_outside}

pub bad-log : {log : Log} → BadLog log → bad_log log ≡ true
bad-log {log} (held_over over) = rw (lt-ltb most_held log.held over)
bad-log {log} (waiting_over over) = rw (lt-ltb log.held log.waiting over) (or-true (ltb most_held log.held))
bad-log {log} (start_outside out) =
    rw (le-leb most_held log.start out, or-true (ltb log.held log.waiting)) (or-true (ltb most_held log.held))

pub bad-row : (log : Log) → bad_log log ≡ true → BadLog log
bad-row log =
    or_elim (ltb most_held log.held) (ltb log.held log.waiting || leb most_held log.start)
    (λ t. held_over (ltb-true most_held log.held t))
    (or_elim (ltb log.held log.waiting) (leb most_held log.start) (λ t. waiting_over (ltb-true log.held log.waiting t))
    (λ t. start_outside (leb-true most_held log.start t)))

-- so a record is good just where no row is met
pub good-log : {log : Log} → bad_log log ≡ false → BadLog log → ⊥
good-log good bad = true≢false (sym (bad-log bad) ∙ good)

pub no_row : (log : Log) → (BadLog log → ⊥) → bad_log log ≡ false
no_row log never =
    by-test (λ (t : Bool). bad_log log ≡ t → t ≡ false) (bad_log log) (λ _ bad. absurd (never (bad-row log bad))) (λ _ _. refl) refl

-- and then its numbers are within their limits
pub record Good (log : Log) : Type 0 where
  pub held : log.held ≤ most_held
  pub waiting : log.waiting ≤ log.held
  pub start : log.start < most_held

pub good-is : (log : Log) → bad_log log ≡ false → Good log
good-is log good =
    let (held, more) = or-none (ltb most_held log.held) (ltb log.held log.waiting || leb most_held log.start) good in
    let (waiting, start) = or-none (ltb log.held log.waiting) (leb most_held log.start) more in
    record {
      held = ltb-false most_held log.held held;
      waiting = ltb-false log.held log.waiting waiting;
      start = leb-false most_held log.start start;
    }
