-- `run::gather`: at each turn, the front of the chunk is the bodies so far with the kind before each but the first.
-- Assumes nothing.
use mathlib.Core.Path.{◌≡◌}
use Prim.Native.Nat.{◌*◌, ◌-◌, ◌≤◌}
use lib.ListN.{length, take}
use Rattle.tape.specs.Running.{linked}
use Rattle.tape.proofs.run.gather.Given as goal

abbrev pub invariant-loop-count : goal.invariant-loop-count
invariant-loop-count l =
    (1 ≤ l.count) × (l.count ≤ l.most) × (length l.piece ≡ length l.initial.piece)
    × (take (2 * l.count - 1) l.chunk ≡ linked l.kind (take l.count l.piece))

abbrev pub decreases-loop-count : goal.decreases-loop-count
decreases-loop-count l = l.most - l.count
