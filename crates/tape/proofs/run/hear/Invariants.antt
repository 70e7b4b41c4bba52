-- `run::hear`: at each turn, the bodies that are left give, from the receiver so far, what all of them give from the first.
-- Assumes nothing.
use mathlib.Core.Path.{◌≡◌}
use Prim.Native.Nat.{◌-◌}
use lib.ListN.{length}
use Rattle.tape.specs.Running.{run_left, running}
use Rattle.tape.proofs.Laws.Hearing.{Goes}
use Rattle.tape.proofs.run.hear.Given as goal

abbrev pub invariant-loop-count : goal.invariant-loop-count
invariant-loop-count l =
    Goes l.line l.records l.bodies
    (run_left (running (length l.initial.out - l.at) l.line l.records l.initial.receiver l.bodies) l.initial.out l.at) l.out l.receiver
    l.count l.end
    × (length l.out ≡ length l.initial.out)

abbrev pub decreases-loop-count : goal.decreases-loop-count
decreases-loop-count l = length l.bodies - l.count
