-- A reader over many calls. What it has to remember and to answer is told from the calls' inputs, and from whether a call was refused; a
-- session hands the reader on from call to call, and no definition here looks into its record. Demand 2, of repeats: a request that repeats the
-- identifier and command of the last one executed since power-on gets the stored reply and executes nothing. 01, The point reader; 02, L2.
-- Assumes nothing.
use Rattle.std.specs.Prelude.{ℕ, ◌≡◌, Bool, true, false, cond, ◌&&◌, not, List, [], ◌∷◌, eqb, length, get_or, drop, take, Result, Ok, Err}
use Rattle.std.proofs.Math.Option.{Option, none, some, map}
use Rattle.ground.specs.declared.refusal.Refusal.{Refusal}
use Rattle.request_spec.specs.declared.parameter.Parameter.{Parameter}
use Rattle.request_spec.specs.declared.parameter.Parameter.TheVariants.{Speed, Settings, Cell}
use Rattle.request_spec.specs.declared.command.Command.{Command}
use Rattle.request_spec.specs.declared.command.Command.TheVariants.{Header, Write, Read, Card}
use Rattle.request_spec.specs.declared.command.Fault.{Fault}
use Rattle.request_spec.specs.Limits.{header_length}
use Rattle.request_spec.specs.Parameters.{parameter_code}
use Rattle.request_spec.specs.Acceptance.{acceptance, nack_of, is_accepted}
use Rattle.request_spec.specs.Replies.{Reply, NACK, identifier_of, command_of, data_of, wrong_check}
use Rattle.reader_spec.specs.declared.reader.Asking.{Asking}
use Rattle.reader_spec.specs.declared.reader.Asking.TheVariants.{Nothing, Wrong, Right}
use Rattle.reader_spec.specs.declared.reader.Reader.{Reader}
use Rattle.reader_spec.specs.declared.reader.Answer.{Answer}
use Rattle.reader_spec.specs.Speeds.{powered_speed, served}
use Rattle.reader_spec.specs.State.{state_of, fresh_state}
use Rattle.reader_spec.specs.Asking.{asking}
use Rattle.reader_spec.specs.Replies.{reply_image, reply_to}
use Rattle.reader_spec.specs.Sending.{Buffers, sent}
use Rattle.reader_spec.specs.Answering.{Input, powered_reader, powering, powered_on, answer_of, Answered, answer_says, Answers}

-- ---- what the calls so far tell

-- a command that was executed, and the reply that was due
pub record Execution : Type 0 where
  pub identifier : ℕ
  pub code : ℕ
  pub reply : Reply

-- the bytes of that reply's frame
abbrev pub image_of : Execution → List ℕ
image_of e = reply_image e.identifier e.code e.reply

-- the value that each parameter has by the writes and power-ons so far, whether the reader was made fast, and the last command executed
-- since power-on
pub record History : Type 0 where
  pub value : Parameter → List ℕ
  pub fast : Bool
  pub last : Option Execution

-- speed 3, zeros in the others
abbrev pub fresh_values : Parameter → List ℕ
fresh_values Speed = 3 ∷ []
fresh_values Settings = 0 ∷ 0 ∷ 0 ∷ 0 ∷ []
fresh_values Cell = 0 ∷ 0 ∷ 0 ∷ 0 ∷ 0 ∷ 0 ∷ 0 ∷ 0 ∷ []

-- and no last command, of a reader that is made fast or slow
abbrev pub begun : Bool → History
begun fast = record { value = fresh_values; fast = fast; last = none }

-- what a power-on leaves of a value: a speed of 8, 9 or 10 becomes 3, and all others stay
abbrev pub powered_value : Parameter → List ℕ → List ℕ
powered_value Speed value = powered_speed (get_or value 0 0) ∷ []
powered_value Settings value = value
powered_value Cell value = value

-- and it forgets the last command
abbrev pub forgetting : History → History
forgetting h = record { value = λ (p : Parameter). powered_value p (h.value p); fast = h.fast; last = none }

-- unless it was refused
abbrev pub powered_by : History → ℕ → History
powered_by h refusal = cond (eqb refusal 0) (forgetting h) h

-- step 3: identifier and command equal those of the last executed command
abbrev pub repeats : Option Execution → ℕ → ℕ → Bool
repeats none identifier code = false
repeats (some e) identifier code = eqb e.identifier identifier && eqb e.code code

abbrev pub is_frame : Asking → Bool
is_frame Nothing = false
is_frame Wrong = false
is_frame Right = true

-- one parameter gets another value
abbrev pub value_set : (Parameter → List ℕ) → Parameter → List ℕ → Parameter → List ℕ
value_set value p bytes q = cond (eqb (parameter_code p) (parameter_code q)) bytes (value q)

-- what a command does to the values
abbrev pub values_after : (Parameter → List ℕ) → Command → List ℕ → Parameter → List ℕ
values_after value Header «data» = value
values_after value (Write p) «data» = value_set value p (drop 1 «data»)
values_after value (Read p) «data» = value
values_after value (Card card) «data» = value

-- the whole image of a reply's frame, with the identifier of the content received; nothing where there is no answer
abbrev pub bytes_of : List ℕ → Option Reply → List ℕ
bytes_of content none = []
bytes_of content (some reply) = reply_image (identifier_of content) (command_of content) reply

-- what the code and data of an input ask for, as a request may
abbrev pub asks_for : Input → Result Command Fault
asks_for i = acceptance (command_of i.content) (data_of i.content)

module _ (h : History) (i : Input) where
  -- and what this reader makes of that
  abbrev pub served_of : Result Command Fault
  served_of = served h.fast (command_of i.content) (data_of i.content)

  -- the input's identifier and command are those of the last executed command
  abbrev pub repeats_last : Bool
  repeats_last = repeats h.last (identifier_of i.content) (command_of i.content)

  -- step 6: executed, and remembered; steps 4 and 5: not
  abbrev pub judged_history : Result Command Fault → History
  judged_history (Err fault) = h
  judged_history (Ok command) =
      record {
        value = values_after h.value command (data_of i.content);
        fast = h.fast;
        last = some
            (record {
              identifier = identifier_of i.content;
              code = command_of i.content;
              reply = reply_to h.value command i.header i.antenna;
            });
      }

  -- what is told after a call that was not refused
  abbrev pub next_history_as : Asking → History
  next_history_as asked = cond (is_frame asked) (cond repeats_last h (judged_history served_of)) h

  abbrev pub next_history : History
  next_history = next_history_as (asking i.event)

  -- and after any call, by its refusal: one that was refused tells nothing
  abbrev pub next_history_by : ℕ → History
  next_history_by refusal = cond (eqb refusal 0) next_history h

  -- the reply that is due: by steps 4 to 6
  abbrev pub judged_reply : Result Command Fault → Reply
  judged_reply (Err fault) = NACK (nack_of fault)
  judged_reply (Ok command) = reply_to h.value command i.header i.antenna

  -- by steps 1 to 3
  abbrev pub due_as : Asking → Option Reply
  due_as Nothing = none
  due_as Wrong = some (NACK wrong_check)
  due_as Right = cond repeats_last (map (λ (e : Execution). e.reply) h.last) (some (judged_reply served_of))

  abbrev pub reply_due : Option Reply
  reply_due = due_as (asking i.event)

  abbrev pub to_send : List ℕ
  to_send = bytes_of i.content reply_due

  -- a FRAME that repeats the last executed command
  abbrev pub is_repeat : Bool
  is_repeat = is_frame (asking i.event) && repeats_last

  -- a FRAME that is executed, unless the call refuses: no repeat, and one that this reader does
  abbrev pub is_executed_as : Asking → Bool
  is_executed_as asked = is_frame asked && (not repeats_last && is_accepted served_of)

  abbrev pub is_executed : Bool
  is_executed = is_executed_as (asking i.event)

-- ---- a session

-- how many bytes of the store are remembered: the last executed command's reply
abbrev pub remembers : Option Execution → ℕ
remembers none = 0
remembers (some e) = length (image_of e)

-- whether the store that a call is lent is, as far as it is remembered, as the last call left it
abbrev pub StoreKept : Bool → History → List ℕ → List ℕ → Type 0
StoreKept true h held store = take (remembers h.last) store ≡ take (remembers h.last) held
StoreKept false h held store = Unit {0}

-- One call of a session, on the reader and the store that the calls before it left, with this history. It may be given any event, content, header,
-- antenna's answer, store and out. `alone` says that nobody else writes to the store.
pub record Call (alone : Bool) (h : History) (s : Reader) (held : List ℕ) : Type 0 where
  pub input : Input
  pub lent : Buffers
  pub answer : Result Answer Refusal
  pub left : Buffers
  pub kept : StoreKept alone h held lent.store
  pub whole : length input.header ≡ header_length
  pub says : Answers s input lent answer left

module _ {alone : Bool} {h : History} {s : Reader} {held : List ℕ} (c : Call alone h s held) where
  -- the reader for the next one
  abbrev pub reader_after : Reader
  reader_after = (answer_of s c.answer).reader

  -- what it answers in the paper's words
  abbrev pub outcome : Answered
  outcome = answer_says s c.answer c.left

  -- it was not refused
  abbrev pub Done : Type 0
  Done = outcome.refusal ≡ 0

  -- what it sends
  abbrev pub bytes_sent : List ℕ
  bytes_sent = sent outcome.buffer outcome.length c.left

  -- what is told after it
  abbrev pub history_after : History
  history_after = next_history_by h c.input outcome.refusal

-- Calls and power-ons in a row from a fresh reader, fast or slow, each with the reader that the last one answered; what the store held as the
-- last call returned; and what they tell.
pub data ReaderSession (alone : Bool) : Reader → List ℕ → History → Type 0 where
  begins : (r : Reader) (store : List ℕ) (fast : Bool) → state_of r ≡ fresh_state fast → ReaderSession alone r store (begun fast)
  powered : {s : Reader} {held : List ℕ} {h : History} → ReaderSession alone s held h
      → (r : Result Reader Refusal)
      → powering s r ≡ powered_on (state_of s)
      → ReaderSession alone (powered_reader s r) held (powered_by h (powering s r).refusal)
  called : {s : Reader} {held : List ℕ} {h : History} → ReaderSession alone s held h
      → (c : Call alone h s held)
      → ReaderSession alone (reader_after c) c.left.store (history_after c)

-- how the reader of a session was made: fast, or slow
unfoldable pub made_fast : {alone : Bool} {s : Reader} {held : List ℕ} {h : History} → ReaderSession alone s held h → Bool
made_fast (begins r store fast is) = fast
made_fast (powered se r says) = made_fast se
made_fast (called se c) = made_fast se

-- calls in a row that execute nothing, refused ones too, from one reader and store to another
pub data Idle (alone : Bool) (h : History) (s : Reader) (held : List ℕ) : Reader → List ℕ → Type 0 where
  rests : Idle alone h s held s held
  passes : {t : Reader} {kept : List ℕ} → Idle alone h s held t kept
      → (c : Call alone h t kept)
      → (Done c → is_executed h c.input ≡ false)
      → Idle alone h s held (reader_after c) c.left.store

-- Calls and power-ons in a row that execute no write of this parameter, from one reader, store and history to another. `with_power` says whether
-- there was a power-on among them, of which none is refused.
pub data Unwritten (alone : Bool) (p : Parameter) (s : Reader) (held : List ℕ) (h : History) : Reader → List ℕ → History → Bool → Type 0 where
  still : Unwritten alone p s held h s held h false
  power : {t : Reader} {kept : List ℕ} {k : History} {with_power : Bool} → Unwritten alone p s held h t kept k with_power
      → (r : Result Reader Refusal)
      → powering t r ≡ powered_on (state_of t)
      → Unwritten alone p s held h (powered_reader t r) kept (powered_by k (powering t r).refusal) true
  other : {t : Reader} {kept : List ℕ} {k : History} {with_power : Bool} → Unwritten alone p s held h t kept k with_power
      → (c : Call alone k t kept)
      → (Done c → is_executed k c.input ≡ true → asks_for c.input ≡ Ok (Write p) → ⊥)
      → Unwritten alone p s held h (reader_after c) c.left.store (history_after c) with_power

-- what is left of a value after them
abbrev pub left_of : Bool → Parameter → List ℕ → List ℕ
left_of with_power p value = cond with_power (powered_value p value) value
