-- Calls cut at will go on: what is promised of each call on a receiver or a tape that the calls can reach; and which totals these are, of which
-- Reporting speaks. Assumes nothing.
use Rattle.std.specs.Prelude.{◌≡◌, false, List, ℕ, ◌≤◌, ◌<◌, length, take, Result}
use Rattle.ground.specs.declared.refusal.Refusal.{Refusal}
use Rattle.link_spec.specs.declared.station.Station.{Station}
use Rattle.link_spec.specs.declared.receiver.Receiver.{Receiver}
use Rattle.link_spec.specs.declared.receiver.Heard.{Heard}
use Rattle.link_spec.specs.Events.{NONE}
use Rattle.link_spec.specs.Receiving.{Said, saying, received}
use Rattle.link_spec.specs.Hearing.{IsFresh}
use Rattle.tape_spec.specs.declared.tape.Tape.{Tape}
use Rattle.tape_spec.specs.declared.tape.Listed.{Listed}
use Rattle.tape_spec.specs.Taping.{fresh_tape, is_over, ListedOut, listed_out, listed}
use Rattle.totals_spec.specs.declared.totals.Totals.{Totals}
use Rattle.totals_spec.specs.Adding.{fresh_totals, added_out, added}

-- a receiver that was made for this station without a refusal, and then only came back from calls
pub data ReachedReceiver (station : Station) : Receiver → Type 0 where
  fresh : {s : Receiver} → IsFresh station s → ReachedReceiver station s
  after : {s : Receiver} → ReachedReceiver station s → (piece : List ℕ) (r : Result Heard Refusal) → saying s r ≡ received s piece
      → ReachedReceiver station (saying s r).receiver

-- such a call is not refused, takes no byte after the piece and at least one of a piece that has any, all of them where it tells nothing, and
-- answers the same to just the bytes that it took
pub record TakesPiece (s : Receiver) (piece : List ℕ) (r : Said) : Type 0 where
  pub fine : r.refusal ≡ 0
  pub most : r.taken ≤ length piece
  pub some : 0 < length piece → 0 < r.taken
  pub all : r.event ≡ NONE → r.taken ≡ length piece
  pub just : received s (take r.taken piece) ≡ r

-- a tape before its first byte, and one that then only came back from calls
pub data ReachedTape : Tape → Type 0 where
  fresh : {t : Tape} → t ≡ fresh_tape → ReachedTape t
  after : {t : Tape} → ReachedTape t → (chunk out last : List ℕ) (r : Result Listed Refusal) → listed_out t r last ≡ listed t chunk out
      → ReachedTape (listed_out t r last).tape

-- a call with the least room is not refused, takes no byte after the chunk and writes none after the buffer, and takes at least one byte of a
-- chunk that has any, until nothing further is read
pub record TakesChunk (t : Tape) (chunk out : List ℕ) (r : ListedOut) : Type 0 where
  pub fine : r.refusal ≡ 0
  pub most : r.taken ≤ length chunk
  pub within : r.written ≤ length out
  pub some : 0 < length chunk → is_over t.next ≡ false → 0 < r.taken

-- totals before a tape's first byte, and such that then only came back from calls
pub data ReachedTotals : Totals → Type 0 where
  fresh : {t : Totals} → t ≡ fresh_totals → ReachedTotals t
  after : {t : Totals} → ReachedTotals t → (chunk : List ℕ) (r : Result Totals Refusal) → added_out t r ≡ added t chunk
      → ReachedTotals (added_out t r).totals
