-- Runs of bytes that are passed over or kept as they stand. It serves contracts of private functions. Assumes nothing.
use Rattle.std.specs.Prelude.{ℕ, ◌+◌, ◌-◌, ◌≤◌, ◌≡◌, Bool, true, false, List, length, take, drop}
use Rattle.wire_spec.specs.Limits.{most_content}
use Rattle.wire_spec.specs.Stuffing.{specials}
use Rattle.link_spec.specs.declared.station.Station.{Station}
use Rattle.link_spec.specs.declared.receiver.Phase.TheVariants.{Outside, Inside}
use Rattle.link_spec.specs.declared.receiver.Receiver.{Receiver}
use Rattle.link_spec.specs.Station.{has_address}
use Rattle.link_spec.specs.Rules.{Later}
use Rattle.link_spec.specs.Receiving.{receiver_of, bad_receiver}
use Rattle.totals_spec.specs.declared.totals.Sums.{Sums}
use Rattle.totals_spec.specs.Adding.{account, with_bytes, after_bytes}

-- over this many bytes a receiver becomes another and tells no FRAME; what is left of the bytes is then this
pub record Passes (s : Receiver) (l : List ℕ) (k : ℕ) (r : Receiver) (m : List ℕ) : Type 0 where
  pub same : (sums : Sums) → after_bytes (account s sums) l ≡ after_bytes (account r (with_bytes k sums)) m

-- whether the next byte of a frame is its address
pub record IsAddress (station : Station) (count : ℕ) (r : Bool) : Type 0 where
  pub later : r ≡ false → Later station count

-- from a place on, outside a frame
pub record Skipped (piece : List ℕ) (from r : ℕ) : Type 0 where
  pub least : from ≤ r
  pub most : r ≤ length piece
  pub passes : (s : Receiver) → s.phase ≡ Outside → bad_receiver s ≡ false → Passes s (drop from piece) (r - from) s (drop r piece)

-- from a place on, inside a frame
pub record Kept (station : Station) (content : List ℕ) (count : ℕ) (piece : List ℕ) (from kept : ℕ) (now : List ℕ) : Type 0 where
  pub least : count ≤ kept
  pub most : kept ≤ most_content
  pub part : from + (kept - count) ≤ length piece
  pub sized : length now ≡ most_content
  pub plain : specials (take kept now) ≡ specials (take count content)
  pub passes : has_address station ≡ true
      → Passes (receiver_of station Inside count content) (drop from piece) (kept - count) (receiver_of station Inside kept now)
      (drop (from + (kept - count)) piece)
