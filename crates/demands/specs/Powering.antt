-- What a power cut leaves of a reader, and what slow readers do not write, over every session of calls. 02, L2; 003, 'Параметры считывателя', the
-- note **. `proofs/Laws/Powering` proves it. Assumes nothing.
use Rattle.std.specs.Prelude.{◌≡◌, Bool, true, false, List, [], ◌∷◌, ◌++◌, ◌↔◌, ℕ, ◌≤◌, Result}
use Rattle.std.proofs.Math.Option.{none}
use Rattle.ground.specs.declared.refusal.Refusal.{Refusal}
use Rattle.ground.specs.Refusals.{tally}
use Rattle.wire_spec.specs.Writing.{after}
use Rattle.link_spec.specs.declared.station.Station.TheVariants.{Point}
use Rattle.link_spec.specs.declared.receiver.Receiver.{Receiver}
use Rattle.link_spec.specs.Hearing.{Told, IsFresh, Hearing}
use Rattle.request_spec.specs.declared.parameter.Parameter.{Parameter}
use Rattle.request_spec.specs.declared.parameter.Parameter.TheVariants.{Speed, Settings, Cell}
use Rattle.request_spec.specs.declared.command.Command.{Command}
use Rattle.request_spec.specs.Replies.{NACK}
use Rattle.request_spec.specs.Requesting.{request_written}
use Rattle.reader_spec.specs.declared.reader.Reader.{Reader}
use Rattle.reader_spec.specs.Speeds.{WritesAbove}
use Rattle.reader_spec.specs.Parameters.{value_of}
use Rattle.reader_spec.specs.State.{State, state_of, BadState}
use Rattle.reader_spec.specs.Answering.{PoweredOn, powering, powered_on}
use Rattle.reader_spec.specs.Sessions.{History, powered_by, Call, outcome, bytes_sent, ReaderSession, made_fast}
use Rattle.demands.specs.Exchanging.{Asks, RequestExecuted, HeardAndRead}

-- a speed that every reader has, and keeps: 3..7
pub record Common (speed : ℕ) : Type 0 where
  pub least : 3 ≤ speed
  pub most : speed ≤ 7

-- what a power-on leaves of the parameters' values: of a speed 3..7 stay and 8..10 become 3, so it is 3..7 then; both others stay
pub record Leaves (was is : Parameter → List ℕ) : Type 0 where
  pub old : ℕ
  pub old_speed : was Speed ≡ old ∷ []
  pub new : ℕ
  pub new_speed : is Speed ≡ new ∷ []
  pub stays : old ≤ 7 → new ≡ old
  pub falls : 8 ≤ old → new ≡ 3
  pub speed : Common new
  pub settings : is Settings ≡ was Settings
  pub cell : is Cell ≡ was Cell

-- a power-on of one reader: not refused; so much is left of the parameters, it is as fast as it was, and the last command is forgotten
pub record PoweredFrom (s : State) (p : PoweredOn) : Type 0 where
  pub fine : p.refusal ≡ 0
  pub values : Leaves (value_of s.parameters) (value_of p.state.parameters)
  pub fast : p.state.fast ≡ s.fast
  pub forgets : p.state.last ≡ none

-- the same of what is told from the calls' inputs, so of what each parameter would be read as and of which request would be a repeat
pub record ToldFrom (h k : History) : Type 0 where
  pub values : Leaves h.value k.value
  pub fast : k.fast ≡ h.fast
  pub forgets : k.last ≡ none

-- the writer of typed requests wrote this one
pub record Typed (identifier code : ℕ) («data» : List ℕ) : Type 0 where
  pub result : Result ℕ Refusal
  pub out : List ℕ
  pub left : List ℕ
  pub says : after result left ≡ request_written identifier code «data» out
  pub fine : (tally result).refusal ≡ 0

-- What is promised of one call of a session on a request that repeats nothing (to a fresh reader none is a repeat), where the reader was made fast
-- or slow.
pub record AnswersTyped {alone : Bool} {h : History} {s : Reader} {held : List ℕ} (made : Bool) (c : Call alone h s held) (identifier code : ℕ)
    («data» : List ℕ) : Type 0 where
  -- a fast reader executes every typed request
  pub fast : made ≡ true → Typed identifier code «data» → (command : Command) × RequestExecuted c command
  -- a slow one just those that write no speed of 8..10
  pub slow : made ≡ false → Typed identifier code «data» → ((command : Command) × RequestExecuted c command) ↔ (WritesAbove code «data» → ⊥)
  -- such a write it answers with NACK 3 and nothing else, by `WellAnswered.nacks_speed`, and the master that sent it reads that
  pub read : made ≡ false → WritesAbove code «data» → (before rest : List ℕ) {m : Receiver} {all : List Told} → IsFresh Point m
      → Hearing (before ++ (bytes_sent c ++ rest)) m 0 all
      → HeardAndRead identifier code «data» before all (bytes_sent c) (NACK 3)

-- a speed of 3..7, which is what a read of it would answer
pub record NeverAbove (s : Reader) (h : History) : Type 0 where
  pub speed : Common s.parameters.speed
  pub told : h.value Speed ≡ s.parameters.speed ∷ []

pub record Request2 : Type 0 where
  -- a power-on of every good reader, and of every reader that calls lead to
  pub powers : (s : Reader) → (BadState (state_of s) → ⊥) → (r : Result Reader Refusal) → powering s r ≡ powered_on (state_of s)
      → PoweredFrom (state_of s) (powering s r)
  pub told : {alone : Bool} {s : Reader} {held : List ℕ} {h : History} → ReaderSession alone s held h → (r : Result Reader Refusal)
      → powering s r ≡ powered_on (state_of s)
      → ToldFrom h (powered_by h (powering s r).refusal)
  pub answers : {alone : Bool} {s : Reader} {held : List ℕ} {h : History} (se : ReaderSession alone s held h) (c : Call alone h s held)
      (identifier code : ℕ) («data» : List ℕ)
      → Asks c identifier code «data»
      → AnswersTyped (made_fast se) c identifier code «data»
  -- a reader is fast or slow as the one was with which the session began, in its record and in what is told
  pub kind : {alone : Bool} {s : Reader} {held : List ℕ} {h : History} (se : ReaderSession alone s held h)
      → (s.fast ≡ made_fast se) × (h.fast ≡ made_fast se)
  -- no session that began with a slow one ever comes to a speed of 8..10
  pub never : {alone : Bool} {s : Reader} {held : List ℕ} {h : History} (se : ReaderSession alone s held h) → made_fast se ≡ false → NeverAbove s h
  -- no call on a reader that calls lead to is refused 4; nor is a power-on, by `Demand2.powers`
  pub good : {alone : Bool} {s : Reader} {held : List ℕ} {h : History} → ReaderSession alone s held h → (c : Call alone h s held)
      → (outcome c).refusal ≡ 4
      → ⊥
