-- `stuffing::stuffed_length`: at each turn, the length so far and the specials of what is left make the length of the whole, stuffed.
-- Assumes nothing.
use mathlib.Core.Path.{◌≡◌}
use Prim.Native.Nat.{◌+◌, ◌≤◌}
use lib.ListN.{length, drop}
use Rattle.wire_spec.specs.Stuffing.{specials}
use Rattle.wire.proofs.stuffing.stuffed_length.Given as goal

abbrev pub invariant-loop-byte : goal.invariant-loop-byte
invariant-loop-byte l =
    (l.length ≤ length l.content + l.byte-index) × (l.length + specials (drop l.byte-index l.content) ≡ length l.content + specials l.content)
