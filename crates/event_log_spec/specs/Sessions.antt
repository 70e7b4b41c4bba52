-- A log over many calls. What was made, and what became of it, is told from the calls' inputs alone; a session hands the log on from call to call,
-- and no definition here looks into its record. 02, L3: over any sequence, each event made is exactly one of waiting, deleted but held, or
-- dropped, told from the history. Assumes nothing.
use Rattle.std.specs.Prelude.{ℕ, ◌%◌, ◌≡◌, Bool, cond, ◌&&◌, List, [], ◌∷◌, ◌++◌, eqb, leb, length, get_or, take, Result}
use Rattle.ground.specs.declared.refusal.Refusal.{Refusal}
use Rattle.ground.specs.Refusals.{tally}
use Rattle.request_spec.specs.Header.{low_first}
use Rattle.event_log_spec.specs.declared.log.Log.{Log}
use Rattle.event_log_spec.specs.Limits.{body_length, identifiers}
use Rattle.event_log_spec.specs.Log.{empty_log}
use Rattle.event_log_spec.specs.Appending.{Appends}
use Rattle.event_log_spec.specs.Answering.{Input, code_in, is_frame, Answers}
use Rattle.event_log_spec.specs.Lots.{Lot, one_new, one_deleted, all_restored, all_cleared}

-- ---- what the calls' inputs tell

-- what happens to a log: an entry is made with this body, or a call is given this event, with this buffer lent
pub data Act : Type 0 where
  made : (body : List ℕ) → Act
  given : (i : Input) (out : List ℕ) → Act

-- the bodies of all entries made, the first one first, and the lot of each
pub record History : Type 0 where
  pub bodies : List (List ℕ)
  pub lots : List Lot

abbrev pub history_with : List (List ℕ) → List Lot → History
history_with bodies lots = record { bodies = bodies; lots = lots }

-- one of the commands with nothing after it: a FRAME of address, identifier and command, with room for every reply
abbrev pub is_command : Input → List ℕ → Bool
is_command i out = is_frame i.event && (eqb (length i.content) 3 && leb 130 (length out))

-- what it does: 11, 12 and 13; 10 and all else change nothing
unfoldable pub lots_after : ℕ → List Lot → List Lot
lots_after code lots =
    cond (eqb code 0x11) (one_deleted lots) (cond (eqb code 0x12) (all_restored lots) (cond (eqb code 0x13) (all_cleared lots) lots))

unfoldable pub told_after : Act → History → History
told_after (made body) h = history_with (h.bodies ++ (body ∷ [])) (one_new h.lots)
told_after (given i out) h = history_with h.bodies (cond (is_command i out) (lots_after (code_in i.content) h.lots) h.lots)

-- all that happened so far, the last first
unfoldable pub history_of : List Act → History
history_of [] = history_with [] []
history_of (act ∷ earlier) = told_after act (history_of earlier)

-- what a read answers of an entry: its identifier, which is its number modulo 2^32, low byte first, and the 8 bytes that it was made with
abbrev pub entry_of : History → ℕ → List ℕ
entry_of h n = low_first (n % identifiers) ++ get_or h.bodies n []

-- ---- a session

-- a call that makes an entry in this log, with any body
pub record Append (log : Log) : Type 0 where
  pub body : List ℕ
  pub result : Result (Unit {0}) Refusal
  pub left : Log
  pub whole : length body ≡ body_length
  pub says : Appends log body result left

-- a call that answers an event, with any event, content and out buffer
pub record Call (log : Log) : Type 0 where
  pub input : Input
  pub out : List ℕ
  pub result : Result ℕ Refusal
  pub left : Log
  pub out_left : List ℕ
  pub says : Answers log input out result left out_left

module _ {log : Log} (c : Call log) where
  -- it was not refused
  abbrev pub Done : Type 0
  Done = (tally c.result).refusal ≡ 0

  -- what it sends: the front of the out buffer
  abbrev pub bytes_sent : List ℕ
  bytes_sent = take (tally c.result).count c.out_left

-- Calls in a row from an empty log, each with the log that the last one left.
pub data LogSession : List Act → Log → Type 0 where
  begins : {log : Log} → log ≡ empty_log → LogSession [] log
  appends : {acts : List Act} {log : Log} → LogSession acts log → (a : Append log) → LogSession (made a.body ∷ acts) a.left
  answers : {acts : List Act} {log : Log} → LogSession acts log → (c : Call log) → LogSession (given c.input c.out ∷ acts) c.left

-- acts whose entries have bodies of 8 bytes, as every call's have
abbrev pub Whole : Act → Type 0
Whole (made body) = length body ≡ body_length
Whole (given i out) = Unit {0}
