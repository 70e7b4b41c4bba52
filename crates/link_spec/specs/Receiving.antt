-- What the receiver's calls answer, for every input.
-- 01, How the receiver moves, and Refusal numbers, rows 3 and 4. Assumes nothing.
use Rattle.std.specs.Prelude.{ℕ, ◌+◌, ◌<◌, ◌≡◌, Bool, true, false, cond, ◌||◌, not, Option, Some, Result, Ok, Err, List, [], ◌∷◌, ltb, take, set, replicate}
use Rattle.ground.specs.declared.refusal.Refusal.{Refusal}
use Rattle.ground.specs.declared.refusal.Refusal.TheVariants.{BadAddress, BadState}
use Rattle.ground.specs.Refusals.{number}
use Rattle.checks.specs.declared.kind.Check.{Check}
use Rattle.wire_spec.specs.Limits.{most_content}
use Rattle.link_spec.specs.declared.event.Verdict.{Verdict}
use Rattle.link_spec.specs.declared.station.Station.{Station}
use Rattle.link_spec.specs.declared.station.Station.TheVariants.{Addressed}
use Rattle.link_spec.specs.declared.receiver.Phase.{Phase}
use Rattle.link_spec.specs.declared.receiver.Phase.TheVariants.{Outside, Inside, Pending}
use Rattle.link_spec.specs.declared.receiver.Turn.{Turn}
use Rattle.link_spec.specs.declared.receiver.Turn.TheVariants.{Rest, Begin, Wait, Keep, Stop, Tell}
use Rattle.link_spec.specs.declared.receiver.Receiver.{Receiver}
use Rattle.link_spec.specs.declared.receiver.RefusedStation.{RefusedStation}
use Rattle.link_spec.specs.declared.receiver.Heard.{Heard}
use Rattle.link_spec.specs.Address.{is_station, NoStation}
use Rattle.link_spec.specs.Station.{check_on, has_address}
use Rattle.link_spec.specs.Events.{Name, NONE, named, telling, silent, event_told, length_told, verdict}
use Rattle.link_spec.specs.Turning.{turn}

abbrev pub receiver_of : Station → Phase → ℕ → List ℕ → Receiver
receiver_of station phase count content = record { station = station; phase = phase; count = count; content = content }

-- ---- fresh receivers

-- outside a frame, with no content so far
abbrev pub outside : Station → List ℕ → Receiver
outside station content = receiver_of station Outside 0 content

abbrev pub fresh_receiver : Station → Receiver
fresh_receiver station = outside station (replicate most_content 0)

-- a call's result in the paper's numbers; with a refusal goes a receiver that refuses every call
pub record Made : Type 0 where
  pub refusal : ℕ
  pub receiver : Receiver

-- what a call's result says that was to make a receiver for a station
abbrev pub made : Result Receiver RefusedStation → Made
made (Ok receiver) = record { refusal = 0; receiver = receiver }
made (Err refused) = record { refusal = number refused.refusal; receiver = refused.receiver }

-- row 3: a new station given 7F or FD..FF is BadAddress
unfoldable pub fresh_made : ℕ → Made
fresh_made own = record { refusal = cond (is_station own) 0 (number BadAddress); receiver = fresh_receiver (Addressed own) }

-- ---- one byte

-- the content so far
abbrev pub so_far : Receiver → List ℕ
so_far s = take s.count s.content

abbrev pub turn_at : Receiver → ℕ → Turn
turn_at s b = turn s.station s.phase s.count b

-- the receiver after a byte; after each event it is outside a frame
unfoldable pub moved : Receiver → Turn → Receiver
moved s Rest = s
moved s Begin = receiver_of s.station Inside 0 s.content
moved s Wait = receiver_of s.station Pending s.count s.content
moved s (Keep b) = receiver_of s.station Inside (s.count + 1) (set s.content s.count b)
moved s Stop = outside s.station s.content
moved s (Tell why) = outside s.station s.content

-- whether a turn has an event
abbrev pub has_event : Turn → Bool
has_event Rest = false
has_event Begin = false
has_event Wait = false
has_event (Keep b) = false
has_event Stop = true
has_event (Tell why) = true

-- what a turn tells after this content so far: the event, and how many bytes of the content it carries
unfoldable pub outcome : Check → List ℕ → Turn → Option Verdict
outcome check content Rest = silent
outcome check content Begin = silent
outcome check content Wait = silent
outcome check content (Keep b) = silent
outcome check content Stop = Some (verdict check content)
outcome check content (Tell why) = Some (telling why 0)

abbrev pub outcome_at : Receiver → Turn → Option Verdict
outcome_at s t = outcome (check_on s.station) (so_far s) t

-- ---- one call

-- a call's result in the paper's numbers and names
pub record Said : Type 0 where
  pub refusal : ℕ
  pub receiver : Receiver
  pub event : Name
  pub content : List ℕ
  pub length : ℕ
  pub taken : ℕ

-- a refusal: event none, count 0, state as it came
abbrev pub said_not : Refusal → Receiver → Said
said_not why s = record { refusal = number why; receiver = s; event = NONE; content = s.content; length = 0; taken = 0 }

-- what the result says of a call on this receiver
abbrev pub saying : Receiver → Result Heard Refusal → Said
saying s (Ok r) =
    record {
      refusal = 0;
      receiver = r.receiver;
      event = named (event_told r.told);
      content = r.content;
      length = length_told r.told;
      taken = r.taken;
    }
saying s (Err why) = said_not why s

-- an answer that is no refusal: the event's content is the front part of what the receiver kept
abbrev pub said_of : Receiver → Option Verdict → ℕ → Said
said_of s v taken =
    record { refusal = 0; receiver = s; event = named (event_told v); content = s.content; length = length_told v; taken = taken }

-- the bytes one by one up to the first event, with a number of bytes taken before; without an event, all of them
unfoldable pub heard : ℕ → Receiver → List ℕ → Said
heard taken s [] = said_of s silent taken
heard taken s (b ∷ bs) =
    let t = turn_at s b in
    let on = heard (taken + 1) (moved s t) bs in
    cond (has_event t) (said_of (moved s t) (outcome_at s t) (taken + 1)) on

abbrev pub not_heard : Receiver → Said
not_heard s = said_not BadState s

-- row 4: a count over 64, or on the addressed line an address no station may have, is BadState
abbrev pub bad_receiver : Receiver → Bool
bad_receiver s = ltb most_content s.count || not (has_address s.station)

unfoldable pub received : Receiver → List ℕ → Said
received s piece = cond (bad_receiver s) (not_heard s) (heard 0 s piece)

-- ---- the refusals as tables: `Laws.Fresh` and `Laws.Receiving` prove that the calls answer by them, and that they leave no other answer

-- row 3: a new station given 7F or FD..FF
pub data NewTable (own : ℕ) : Made → Type 0 where
  bad_address : NoStation own → NewTable own (record { refusal = number BadAddress; receiver = fresh_receiver (Addressed own) })
  fresh : (NoStation own → ⊥) → NewTable own (record { refusal = 0; receiver = fresh_receiver (Addressed own) })

-- row 4: receiver count over 64, or on the addressed line an address no station may have
pub data BadReceiver (s : Receiver) : Type 0 where
  over : most_content < s.count → BadReceiver s
  no_station : {own : ℕ} → s.station ≡ Addressed own → NoStation own → BadReceiver s

pub data ReceiverTable (s : Receiver) (piece : List ℕ) : Said → Type 0 where
  bad_state : BadReceiver s → ReceiverTable s piece (not_heard s)
  hears_piece : (BadReceiver s → ⊥) → ReceiverTable s piece (heard 0 s piece)
