-- `hex::lay_pairs`: at each turn, to lay what is left at the place reached gives what was asked for.
-- Assumes nothing.
use mathlib.Core.Path.{◌≡◌}
use Prim.Native.Nat.{◌+◌, ◌*◌, ◌-◌}
use lib.ListN.{length, drop}
use Rattle.ground.specs.Laying.{laid}
use Rattle.text.specs.Hex.{further}
use Rattle.text.proofs.hex.lay_pairs.Given as goal

abbrev pub invariant-loop-byte : goal.invariant-loop-byte
invariant-loop-byte l =
    (length l.out ≡ length l.initial.out)
    × (l.end + 3 * (length l.others - l.byte-index) ≡ l.initial.end + 3 * length l.others)
    × (laid l.out l.end (further (drop l.byte-index l.others)) ≡ laid l.initial.out l.initial.end (further l.others))
