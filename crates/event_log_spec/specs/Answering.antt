-- What the call that answers a receiver's event does, and what it leaves in the out buffer, for every input. 02, L3: replies go to address 00, and only
-- to FRAME; refusals 4, 1, 5. 000, 'Кадр ответа считывателя компьютеру'; 01, Layout of a frame, for the addressed line. Assumes nothing.
use Rattle.std.specs.Prelude.{ℕ, ◌≤◌, ◌<◌, ◌≡◌, Bool, true, false, cond, ◌&&◌, List, ltb, leb, length, get_or, drop, Result, Ok, Err}
use Rattle.ground.specs.declared.refusal.Refusal.{Refusal}
use Rattle.ground.specs.declared.refusal.Refusal.TheVariants.{NoRoom, BadState as BAD, BadRequest}
use Rattle.wire_spec.specs.Writing.{After, after, not_written, leaving, putting}
use Rattle.ground.specs.Refusals.{counted}
use Rattle.link_spec.specs.Events.{Name, NONE, FRAME, CHECK, SHORT, LONG, PAIR, ADDR}
use Rattle.link_spec.specs.Frame.{addressed_content}
use Rattle.request_spec.specs.Replies.{Reply, command_in, data_in}
use Rattle.event_log_spec.specs.declared.log.Log.{Log}
use Rattle.event_log_spec.specs.declared.log.Doing.{Doing}
use Rattle.event_log_spec.specs.declared.log.Answered.{Answered}
use Rattle.event_log_spec.specs.Limits.{room, least_front, most_front}
use Rattle.event_log_spec.specs.Log.{bad_log, BadLog}
use Rattle.event_log_spec.specs.Doing.{doing, waiting_after, reply_of}

-- what a call is given besides the log and the out buffer: a receiver's event on the addressed line with its content, the check cut off
pub record Input : Type 0 where
  pub event : Name
  pub content : List ℕ

abbrev pub input_of : Name → List ℕ → Input
input_of event content = record { event = event; content = content }

-- 01, Layout of a frame: after the address stand the identifier, the command, and the data part from the fourth byte on
abbrev pub identifier_in : List ℕ → ℕ
identifier_in content = get_or content 1 0

abbrev pub code_in : List ℕ → ℕ
code_in content = get_or content 2 0

abbrev pub data_after : List ℕ → List ℕ
data_after content = drop 3 content

-- only a FRAME is answered
abbrev pub is_frame : Name → Bool
is_frame NONE = false
is_frame FRAME = true
is_frame CHECK = false
is_frame SHORT = false
is_frame LONG = false
is_frame PAIR = false
is_frame ADDR = false

-- row 5: content without check not 3..63 bytes
abbrev pub is_front : List ℕ → Bool
is_front content = leb least_front (length content) && leb (length content) most_front

-- a reply's content with its check: to the master's address, with the identifier and code of the request
abbrev pub reply_content : ℕ → ℕ → Reply → List ℕ
reply_content identifier code reply = addressed_content 0x00 identifier (command_in code reply) (data_in reply)

-- ---- one call

-- its result in the paper's words, the log for the next call, and the contents of the out buffer as it returns
pub record Answering : Type 0 where
  pub after : After
  pub log : Log

abbrev pub answering : Result ℕ Refusal → Log → List ℕ → Answering
answering r log left = record { after = after r left; log = log }

-- the same of a call by value, which answers the log too; where it refuses, the log is as it was given
abbrev pub answered_as : Log → Result Answered Refusal → List ℕ → Answering
answered_as log (Ok a) left = answering (Ok a.count) a.log left
answered_as log (Err why) left = answering (Err why) log left

-- nothing but how many wait is changed
abbrev pub with_waiting : Log → ℕ → Log
with_waiting log waiting =
    record { bodies = log.bodies; start = log.start; held = log.held; waiting = waiting; next = log.next }

module _ (log : Log) (i : Input) (out : List ℕ) where
  -- the number and count 0, with log and buffer as before
  abbrev pub not_answered : Refusal → Answering
  not_answered why = record { after = not_written why out; log = log }

  -- no answer
  abbrev pub silent : Answering
  silent = record { after = leaving (counted 0) out; log = log }

  -- what is done, and the reply to it
  abbrev pub does : Doing → Answering
  does d =
      record {
        after = putting (reply_content (identifier_in i.content) (code_in i.content) (reply_of log d)) out;
        log = with_waiting log (waiting_after log.held log.waiting d);
      }

  -- of a FRAME, by its code and data
  unfoldable pub framed : Answering
  framed = does (doing (code_in i.content) (data_after i.content) log.waiting)

  abbrev pub heard_as : Bool → Answering
  heard_as frame = cond frame (cond (is_front i.content) framed (not_answered BadRequest)) silent

  -- refusals in this order: 4, 1, 5
  unfoldable pub answered_to : Answering
  answered_to = cond (bad_log log) (not_answered BAD) (cond (ltb (length out) room) (not_answered NoRoom) (heard_as (is_frame i.event)))

-- the call's statement: to this log and input, with this buffer lent, it answers this, and leaves the log and the buffer so
abbrev pub Answers : Log → Input → List ℕ → Result ℕ Refusal → Log → List ℕ → Type 0
Answers log i out r left out' = answering r left out' ≡ answered_to log i out

-- ---- the same as a table

-- content without check not 3..63 bytes
pub data Unfit (content : List ℕ) : Type 0 where
  short : length content < 3 → Unfit content
  long : 63 < length content → Unfit content

-- `Laws.Answering` proves that `answered_to` answers by these rows, and that they leave it no other answer
pub data LogTable (log : Log) (i : Input) (out : List ℕ) : Answering → Type 0 where
  state : BadLog log → LogTable log i out (not_answered log i out BAD)
  no_room : (BadLog log → ⊥) → length out < 130 → LogTable log i out (not_answered log i out NoRoom)
  request : (BadLog log → ⊥) → 130 ≤ length out → i.event ≡ FRAME → Unfit i.content → LogTable log i out (not_answered log i out BadRequest)
  others : (BadLog log → ⊥) → 130 ≤ length out → (i.event ≡ FRAME → ⊥) → LogTable log i out (silent log i out)
  frame : (BadLog log → ⊥) → 130 ≤ length out → i.event ≡ FRAME → (Unfit i.content → ⊥)
      → LogTable log i out (does log i out (doing (code_in i.content) (data_after i.content) log.waiting))
