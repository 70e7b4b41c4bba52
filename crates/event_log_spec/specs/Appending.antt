-- What the call that makes a new entry answers, for every log and body. 02, L3: an identifier, 0 first, goes up by one and wraps; a new event in a full
-- log drops the oldest; 4 BadState. Assumes nothing.
use Rattle.std.specs.Prelude.{ℕ, ◌+◌, ◌%◌, ◌≡◌, cond, List, eqb, Result, Ok, Err}
use Rattle.ground.specs.declared.refusal.Refusal.{Refusal}
use Rattle.ground.specs.declared.refusal.Refusal.TheVariants.{BadState as BAD}
use Rattle.ground.specs.Refusals.{number}
use Rattle.ground.specs.Laying.{laid}
use Rattle.event_log_spec.specs.declared.log.Log.{Log}
use Rattle.event_log_spec.specs.Limits.{most_held, identifiers}
use Rattle.event_log_spec.specs.Log.{place_of, body_start, bad_log, BadLog}

-- a call's result in the paper's words, and the log that it leaves
pub record Appending : Type 0 where
  pub refusal : ℕ
  pub log : Log

abbrev pub appending : Result (Unit {0}) Refusal → Log → Appending
appending (Ok done) log = record { refusal = 0; log = log }
appending (Err why) log = record { refusal = number why; log = log }

-- the same of a call by value, which answers the log that it makes; where it refuses, the log is as it was given
abbrev pub appended_as : Log → Result Log Refusal → Appending
appended_as log (Ok left) = appending (Ok tt) left
appended_as log (Err why) = appending (Err why) log

-- one more, of which the log holds the last 128
abbrev pub one_more : ℕ → ℕ
one_more count = cond (eqb count most_held) most_held (count + 1)

-- It stands after the newest, which in a full log is the oldest's place; the next one is the oldest then. It waits, after all that wait.
abbrev pub with_entry : Log → List ℕ → Log
with_entry log body =
    record {
      bodies = laid log.bodies (body_start (place_of log log.held)) body;
      start = cond (eqb log.held most_held) (place_of log 1) log.start;
      held = one_more log.held;
      waiting = one_more log.waiting;
      next = (log.next + 1) % identifiers;
    }

unfoldable pub appended_to : Log → List ℕ → Appending
appended_to log body = cond (bad_log log) (appending (Err BAD) log) (record { refusal = 0; log = with_entry log body })

-- the call's statement: to this log and body it answers this, and leaves the log so
abbrev pub Appends : Log → List ℕ → Result (Unit {0}) Refusal → Log → Type 0
Appends log body r left = appending r left ≡ appended_to log body

-- the same as a table. `Laws.Appending` proves that `appended_to` answers by it, and that it leaves it no other answer
pub data AppendTable (log : Log) (body : List ℕ) : Appending → Type 0 where
  refuses : BadLog log → AppendTable log body (appending (Err BAD) log)
  appends : (BadLog log → ⊥) → AppendTable log body (record { refusal = 0; log = with_entry log body })
