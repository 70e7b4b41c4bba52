-- What the reader's calls answer, and what they leave in the two buffers, for every input.
-- 01, The point reader, by the numbers of its steps, and Refusal numbers, rows 1, 2, 4 and 5; 02, L2. Assumes nothing.
use Rattle.std.specs.Prelude.{ℕ, ◌≤◌, ◌<◌, ◌≡◌, Bool, true, cond, ◌&&◌, ◌||◌, List, [], ◌∷◌, ltb, leb, length, Option, None, Some, Result, Ok, Err}
use Rattle.std.proofs.Math.Option.{none, some}
use Rattle.ground.specs.declared.refusal.Refusal.{Refusal}
use Rattle.ground.specs.declared.refusal.Refusal.TheVariants.{NoRoom, TooLong, BadState as BAD, BadRequest}
use Rattle.ground.specs.Refusals.{number}
use Rattle.ground.specs.Laying.{onto}
use Rattle.link_spec.specs.Events.{Name, FRAME, CHECK}
use Rattle.request_spec.specs.declared.parameter.Parameter.TheVariants.{Speed}
use Rattle.request_spec.specs.declared.command.Command.{Command}
use Rattle.request_spec.specs.declared.command.Fault.{Fault}
use Rattle.request_spec.specs.Limits.{most_antenna}
use Rattle.request_spec.specs.Acceptance.{nack_of}
use Rattle.request_spec.specs.Replies.{NACK, sign, identifier_of, command_of, data_of, wrong_check}
use Rattle.reader_spec.specs.declared.reader.Asking.{Asking}
use Rattle.reader_spec.specs.declared.reader.Asking.TheVariants.{Nothing, Wrong, Right}
use Rattle.reader_spec.specs.declared.reader.Buffer.TheVariants.{Out}
use Rattle.reader_spec.specs.declared.reader.Reader.{Reader}
use Rattle.reader_spec.specs.declared.reader.Answer.{Answer}
use Rattle.reader_spec.specs.Limits.{room, least_front, most_front}
use Rattle.reader_spec.specs.Speeds.{served}
use Rattle.reader_spec.specs.Parameters.{value_of, with_value, done_to, after_power}
use Rattle.reader_spec.specs.State.{State, state_with, state_of, last_of, find, bad_state, BadState}
use Rattle.reader_spec.specs.Asking.{asking}
use Rattle.reader_spec.specs.Replies.{reply_image, reply_to}
use Rattle.reader_spec.specs.Sending.{BufferName, OUT, STORE, buffer_named, Buffers, buffers_of}

-- the number of a call's refusal; 0 is no refusal
abbrev pub refusal_of : {A : Type 0} → Result A Refusal → ℕ
refusal_of (Ok answer) = 0
refusal_of (Err why) = number why

-- ---- power-on

-- a call's result in the paper's words
pub record PoweredOn : Type 0 where
  pub refusal : ℕ
  pub state : State

-- the reader after the call; as it was where it refused
abbrev pub powered_reader : Reader → Result Reader Refusal → Reader
powered_reader reader (Ok after) = after
powered_reader reader (Err why) = reader

abbrev pub powering : Reader → Result Reader Refusal → PoweredOn
powering reader r = record { refusal = refusal_of r; state = state_of (powered_reader reader r) }

-- A power-on forgets the last command; a speed of 8..10 becomes 3, and all else stays: 3..7, both other parameters, whether the reader is fast. It
-- refuses with 4 only.
unfoldable pub powered_on : State → PoweredOn
powered_on s =
    cond (bad_state s) (record { refusal = number BAD; state = s })
    (record { refusal = 0; state = state_with (after_power s.parameters) s.fast none })

-- row 4 for it, and else what it does. `Laws.Answering` proves that `powered_on` answers by these, and that they leave it no other answer
pub data PowerTable (s : State) : PoweredOn → Type 0 where
  refuses : BadState s → PowerTable s (record { refusal = number BAD; state = s })
  stays : (BadState s → ⊥) → s.parameters.speed ≤ 7
      → PowerTable s (record { refusal = 0; state = state_with s.parameters s.fast none })
  falls : (BadState s → ⊥) → 8 ≤ s.parameters.speed
      → PowerTable s (record { refusal = 0; state = state_with (with_value s.parameters Speed (3 ∷ [])) s.fast none })

-- ---- one call

-- what a call is given besides the reader and the buffers: a receiver event with its content, the check cut off, the device header, and
-- the antenna's answer
pub record Input : Type 0 where
  pub event : Name
  pub content : List ℕ
  pub header : List ℕ
  pub antenna : List ℕ

abbrev pub input_of : Name → List ℕ → List ℕ → List ℕ → Input
input_of event content header antenna = record { event = event; content = content; header = header; antenna = antenna }

-- its result in the paper's words, and the contents of both buffers as it returns
pub record Answered : Type 0 where
  pub refusal : ℕ
  pub state : State
  pub buffer : BufferName
  pub length : ℕ
  pub left : Buffers

-- the answer; where the call refused, the reader as it was and an empty part of out
abbrev pub answer_of : Reader → Result Answer Refusal → Answer
answer_of reader (Ok answer) = answer
answer_of reader (Err why) = record { reader = reader; buffer = Out; length = 0 }

abbrev pub answer_says : Reader → Result Answer Refusal → Buffers → Answered
answer_says reader r left =
    let a = answer_of reader r in
    record { refusal = refusal_of r; state = state_of a.reader; buffer = buffer_named a.buffer; length = a.length; left = left }

-- no refusal: this state from now on, and the first bytes of one buffer to send
abbrev pub sending : State → BufferName → ℕ → Buffers → Answered
sending s buffer length left = record { refusal = 0; state = s; buffer = buffer; length = length; left = left }

-- the number and an empty part of out, with state and buffers as before
abbrev pub not_answered : Refusal → State → Buffers → Answered
not_answered why s lent = record { refusal = number why; state = s; buffer = OUT; length = 0; left = lent }

-- steps 2, 4 and 5 write only to out and leave memory and store untouched; a NACK's frame carries no command
abbrev pub nacked : State → ℕ → ℕ → Buffers → Answered
nacked s identifier n lent =
    let bytes = reply_image identifier sign (NACK n) in
    sending s OUT (length bytes) (buffers_of lent.store (onto bytes lent.out))

module _ (s : State) (i : Input) (lent : Buffers) where
  -- the whole image of the reply to a command that is executed
  abbrev pub reply_bytes : Command → List ℕ
  reply_bytes command =
      reply_image (identifier_of i.content) (command_of i.content) (reply_to (value_of s.parameters) command i.header i.antenna)

  -- 6. the reply is written to out, copied to the front of the store, and identifier, command and length are remembered
  abbrev pub executed : Command → Answered
  executed command =
      sending
      (state_with (done_to s.parameters command (data_of i.content)) s.fast
      (some (last_of (identifier_of i.content) (command_of i.content) (length (reply_bytes command)))))
      OUT (length (reply_bytes command)) (buffers_of (onto (reply_bytes command) lent.store) (onto (reply_bytes command) lent.out))

  -- 4. unknown code: NACK 2. 5. data not acceptable, or a speed that this reader has not: NACK 3
  abbrev pub judged : Result Command Fault → Answered
  judged (Ok command) = executed command
  judged (Err fault) = nacked s (identifier_of i.content) (nack_of fault) lent

  -- 3. the stored reply again; data is ignored, nothing changes
  abbrev pub recalled : Option ℕ → Answered
  recalled (Some length) = sending s STORE length lent
  recalled None = judged (served s.fast (command_of i.content) (data_of i.content))

  -- of a FRAME, by its identifier, command and data part
  unfoldable pub framed : Answered
  framed = recalled (find s.last (identifier_of i.content) (command_of i.content))

  -- 1. no answer, an empty part of the out buffer. 2. CHECK: NACK 1, with the received identifier
  abbrev pub stepped : Asking → Answered
  stepped Nothing = sending s OUT 0 lent
  stepped Wrong = nacked s (identifier_of i.content) wrong_check lent
  stepped Right = framed

-- row 5: a FRAME or CHECK whose content without check is not 2..62 bytes
abbrev pub is_front : List ℕ → Bool
is_front content = leb least_front (length content) && leb (length content) most_front

abbrev pub fits : Asking → List ℕ → Bool
fits Nothing content = true
fits Wrong content = is_front content
fits Right content = is_front content

abbrev pub admitted : State → Input → Buffers → Answered
admitted s i lent = cond (fits (asking i.event) i.content) (stepped s i lent (asking i.event)) (not_answered BadRequest s lent)

-- row 1: store or out under 130. Row 2: antenna answer over 8. 'Order': reader 4, 1, 2, 5
unfoldable pub answered : State → Input → Buffers → Answered
answered s i lent =
    cond (bad_state s) (not_answered BAD s lent)
    (cond (ltb (length lent.store) room || ltb (length lent.out) room) (not_answered NoRoom s lent)
    (cond (ltb most_antenna (length i.antenna)) (not_answered TooLong s lent) (admitted s i lent)))

-- the call's statement: to this reader, with this input and these buffers lent, it answers this and leaves the buffers so
abbrev pub Answers : Reader → Input → Buffers → Result Answer Refusal → Buffers → Type 0
Answers reader i lent r left = answer_says reader r left ≡ answered (state_of reader) i lent

-- ---- the same as a table

-- an antenna's answer and buffers that no row refuses
abbrev pub LentWell : Input → Buffers → Type 0
LentWell i lent = (length i.antenna ≤ most_antenna) × (room ≤ length lent.store) × (room ≤ length lent.out)

-- the events that row 5 speaks of
pub data CarriesContent : Name → Type 0 where
  frame : CarriesContent FRAME
  check : CarriesContent CHECK

-- a FRAME or CHECK whose content without check is not 2..62 bytes
pub data Unfit (i : Input) : Type 0 where
  short : CarriesContent i.event → length i.content < least_front → Unfit i
  long : CarriesContent i.event → most_front < length i.content → Unfit i

-- The reader's rows of the refusal table, and the steps where no row applies. `Laws.Answering` proves that `answered` answers by them, and
-- that they leave it no other answer.
pub data ReaderTable (s : State) (i : Input) (lent : Buffers) : Answered → Type 0 where
  state : BadState s → ReaderTable s i lent (not_answered BAD s lent)
  no_store : (BadState s → ⊥) → length lent.store < room → ReaderTable s i lent (not_answered NoRoom s lent)
  no_out : (BadState s → ⊥) → room ≤ length lent.store → length lent.out < room → ReaderTable s i lent (not_answered NoRoom s lent)
  too_long : (BadState s → ⊥)
      → room ≤ length lent.store
      → room ≤ length lent.out
      → most_antenna < length i.antenna
      → ReaderTable s i lent (not_answered TooLong s lent)
  request : (BadState s → ⊥) → LentWell i lent → Unfit i → ReaderTable s i lent (not_answered BadRequest s lent)
  steps : (BadState s → ⊥) → LentWell i lent → (Unfit i → ⊥) → ReaderTable s i lent (stepped s i lent (asking i.event))
