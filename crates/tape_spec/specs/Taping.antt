-- What the calls that list a tape answer and leave in the buffer lent to them, for every input.
-- 01, The listing program, and Refusal numbers, rows 1 and 4 in their sense (docs/DECISIONS.md, rows, reel and tape). Assumes nothing.
use Rattle.std.specs.Prelude.{ℕ, ◌+◌, ◌-◌, Bool, true, false, cond, ◌&&◌, ◌||◌, List, [], ◌∷◌, ◌++◌, ltb, eqb, length, Result, Ok, Err}
use Rattle.ground.specs.declared.refusal.Refusal.{Refusal}
use Rattle.ground.specs.declared.refusal.Refusal.TheVariants.{NoRoom, BadState}
use Rattle.ground.specs.Refusals.{number}
use Rattle.ground.specs.Laying.{laid}
use Rattle.link_spec.specs.Receiving.{bad_receiver, received}
use Rattle.tape_spec.specs.declared.tape.Ending.{Ending}
use Rattle.tape_spec.specs.declared.tape.Ending.TheVariants.{End as END, Cut as CUT, Bad as BAD, Full as FULL}
use Rattle.tape_spec.specs.Limits.{least_room, most_records}
use Rattle.tape_spec.specs.Rows.{heard_row, last_row}
use Rattle.tape_spec.specs.declared.tape.Next.{Next}
use Rattle.tape_spec.specs.declared.tape.Next.TheVariants.{Kind, Body, Bad, Full}
use Rattle.tape_spec.specs.declared.tape.Receivers.{Receivers}
use Rattle.tape_spec.specs.declared.tape.Tape.{Tape}
use Rattle.tape_spec.specs.declared.tape.Listed.{Listed}
use Rattle.tape_spec.specs.Whole.{known, unknown, kind, fresh_receivers, receiver_on, with_receiver}
use Rattle.tape_spec.specs.Whole as whole

abbrev pub tape_of : ℕ → Next → Receivers → Tape
tape_of records next receivers = record { records = records; next = next; receivers = receivers }

abbrev pub fresh_tape : Tape
fresh_tape = tape_of 0 Kind fresh_receivers

-- ---- one byte of a tape

-- after a kind byte its body is next, and nothing after an unknown kind
abbrev pub awaited : whole.Kind → Next
awaited (known line) = Body line
awaited unknown = Bad

-- nor after a byte that follows the last permitted record
unfoldable pub after_kind : ℕ → ℕ → Next
after_kind records k = cond (eqb records most_records) Full (awaited (kind k))

-- the tape after a byte, and the text of the byte's event
pub record Step : Type 0 where
  pub tape : Tape
  pub text : List ℕ

abbrev pub quiet : Tape → Step
quiet t = record { tape = t; text = [] }

unfoldable pub advance : Next → Tape → ℕ → Step
advance Kind t b = quiet (tape_of t.records (after_kind t.records b) t.receivers)
advance (Body line) t b =
    let said = received (receiver_on line t.receivers) (b ∷ []) in
    record { tape = tape_of (t.records + 1) Kind (with_receiver line said.receiver t.receivers); text = heard_row t.records line said }
advance Bad t b = quiet t
advance Full t b = quiet t

abbrev pub advanced : Tape → ℕ → Step
advanced t b = advance t.next t b

-- whether nothing further is read
abbrev pub is_over : Next → Bool
is_over Kind = false
is_over (Body line) = false
is_over Bad = true
is_over Full = true

-- ---- one call on a chunk

-- the tape after the bytes taken, their number, and the text of their events
pub record Went : Type 0 where
  pub tape : Tape
  pub taken : ℕ
  pub text : List ℕ

abbrev pub standing : Tape → Went
standing t = record { tape = t; taken = 0; text = [] }

-- a step, and what was taken after it
abbrev pub after_step : Step → Went → Went
after_step s w = record { tape = w.tape; taken = 1 + w.taken; text = s.text ++ w.text }

-- byte by byte, while there is room for the longest row and something further is read
unfoldable pub going : ℕ → Tape → List ℕ → Went
going room t [] = standing t
going room t (b ∷ bs) =
    let s = advanced t b in
    let more = going (room - length s.text) s.tape bs in
    cond (is_over t.next || ltb room least_room) (standing t) (after_step s more)

-- a call's result in the paper's numbers, and the contents of the lent buffer as it returns
pub record ListedOut : Type 0 where
  pub refusal : ℕ
  pub tape : Tape
  pub taken : ℕ
  pub written : ℕ
  pub out : List ℕ

-- a call that was not refused
abbrev pub listed_to : Tape → ℕ → ℕ → List ℕ → ListedOut
listed_to t taken written out = record { refusal = 0; tape = t; taken = taken; written = written; out = out }

-- a refused call returns the number and counts 0, with tape and buffer as before
abbrev pub not_listed : Refusal → Tape → List ℕ → ListedOut
not_listed why t out = record { refusal = number why; tape = t; taken = 0; written = 0; out = out }

-- what the result says of a call on this tape, which is as it came where the call was refused
abbrev pub listed_out : Tape → Result Listed Refusal → List ℕ → ListedOut
listed_out t (Ok r) out = listed_to r.tape r.taken r.written out
listed_out t (Err why) out = not_listed why t out

-- the text stands at the buffer's front, and bytes after it stay as they were
abbrev pub text_written : Went → List ℕ → ListedOut
text_written w out = listed_to w.tape w.taken (length w.text) (laid out 0 w.text)

-- in the sense of row 4: a receiver that the link refuses, or a body after the last permitted record, is BadState
abbrev pub bad_receivers : Receivers → Bool
bad_receivers r = bad_receiver r.point || bad_receiver r.addressed

abbrev pub awaits_body : Next → Bool
awaits_body Kind = false
awaits_body (Body line) = true
awaits_body Bad = false
awaits_body Full = false

abbrev pub bad_tape : Tape → Bool
bad_tape t = bad_receivers t.receivers || (awaits_body t.next && eqb t.records most_records)

-- in the sense of row 1: out under the least room is NoRoom. Order: 4, 1, as the reader's
unfoldable pub listed : Tape → List ℕ → List ℕ → ListedOut
listed t chunk out =
    cond (bad_tape t) (not_listed BadState t out)
    (cond (ltb (length out) least_room) (not_listed NoRoom t out) (text_written (going (length out) t chunk) out))

-- ---- the last row

-- how a tape ends that has no byte more
abbrev pub ending : Next → Ending
ending Kind = END
ending (Body line) = CUT
ending Bad = BAD
ending Full = FULL

abbrev pub last_row_of : Tape → List ℕ
last_row_of t = last_row (ending t.next) t.records
