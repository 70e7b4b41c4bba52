-- A hearing: a whole stream handed over in calls, cut at will, each continuing where the last stopped, and what the calls tell.
-- 01, How the receiver moves, the last paragraph. Assumes nothing.
use Rattle.std.specs.Prelude.{ℕ, ◌+◌, ◌≤◌, ◌≡◌, cond, Result, List, [], ◌∷◌, ◌++◌, length, take, drop}
use Rattle.ground.specs.declared.refusal.Refusal.{Refusal}
use Rattle.link_spec.specs.declared.station.Station.{Station}
use Rattle.link_spec.specs.declared.station.Station.TheVariants.{Point, Addressed}
use Rattle.link_spec.specs.declared.receiver.Receiver.{Receiver}
use Rattle.link_spec.specs.declared.receiver.RefusedStation.{RefusedStation}
use Rattle.link_spec.specs.declared.receiver.Heard.{Heard}
use Rattle.link_spec.specs.Events.{Name, happened}
use Rattle.link_spec.specs.Receiving.{fresh_receiver, made, fresh_made, Said, saying, received}

-- an event with its place, the number of its byte in the stream (the first byte is 1), and its content without check
pub record Told : Type 0 where
  pub place : ℕ
  pub event : Name
  pub content : List ℕ

abbrev pub told_at : ℕ → Name → List ℕ → Told
told_at place event content = record { place = place; event = event; content = content }

-- one entry, unless nothing happened
unfoldable pub note : ℕ → Name → List ℕ → List Told
note place event content = cond (happened event) (told_at place event content ∷ []) []

-- what a call tells that begins after this many bytes of the stream
unfoldable pub tells : ℕ → Said → List Told
tells before said = note (before + said.taken) said.event (take said.length said.content)

-- a receiver for this station, as the call that makes it answers unless it refuses
pub data IsFresh : Station → Receiver → Type 0 where
  point : {r : Receiver} → r ≡ fresh_receiver Point → IsFresh Point r
  addressed : (r : Result Receiver RefusedStation) {own : ℕ} → made r ≡ fresh_made own → (made r).refusal ≡ 0 → IsFresh (Addressed own) (made r).receiver

-- A hearing of what is left of a stream after this many bytes, and what its calls tell: either nothing is left, or there is one call
-- more, on any piece, empty too, that continues there, and the hearing goes on with the receiver that the call answered, after the bytes
-- that it took.
pub data Hearing (stream : List ℕ) : Receiver → ℕ → List Told → Type 0 where
  over : {s : Receiver} {before : ℕ} → length stream ≤ before → Hearing stream s before []
  call : {s : Receiver} {before : ℕ} {more : List Told} (piece rest : List ℕ) (r : Result Heard Refusal)
      → drop before stream ≡ piece ++ rest
      → saying s r ≡ received s piece
      → Hearing stream (saying s r).receiver (before + (saying s r).taken) more
      → Hearing stream s before (tells before (saying s r) ++ more)
