-- `stuffing::stuff`: at each turn, to lay the stuffing of what is left at the place reached gives what was asked for.
-- Assumes nothing.
use mathlib.Core.Path.{◌≡◌}
use Prim.Native.Nat.{◌+◌}
use lib.ListN.{length, drop}
use Rattle.ground.specs.Laying.{laid}
use Rattle.wire_spec.specs.Stuffing.{stuffing}
use Rattle.wire.proofs.stuffing.stuff.Given as goal

abbrev pub invariant-loop-byte : goal.invariant-loop-byte
invariant-loop-byte l =
    (length l.room ≡ length l.initial.room)
    × (l.at + length (stuffing (drop l.byte-index l.content)) ≡ length (stuffing l.content))
    × (laid l.room l.at (stuffing (drop l.byte-index l.content)) ≡ laid l.initial.room 0 (stuffing l.content))
