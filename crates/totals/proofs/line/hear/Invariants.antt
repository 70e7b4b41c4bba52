-- `line::hear`: at each turn, what is left of the piece gives, from the receiver and the sums so far, what the whole piece gives.
-- Assumes nothing.
use Prim.Native.Nat.{◌-◌}
use lib.ListN.{length}
use Rattle.totals_spec.specs.Adding.{account, after_bytes}
use Rattle.totals.proofs.Laws.Hearing.{Goes}
use Rattle.totals.proofs.line.hear.Given as goal

abbrev pub invariant-loop-taken : goal.invariant-loop-taken
invariant-loop-taken l =
    Goes l.receiver.station l.sums.heard l.piece (after_bytes (account l.receiver l.sums) l.piece) l.phase l.count l.content l.specials l.frames l.inside
    l.reserved l.taken

abbrev pub decreases-loop-taken : goal.decreases-loop-taken
decreases-loop-taken l =
    length l.piece - l.taken
