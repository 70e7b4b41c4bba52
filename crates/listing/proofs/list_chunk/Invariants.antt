-- `list_chunk`: no more of the chunk is taken than there is, and each turn leaves less of it.
use Rattle.std.proofs.Common.{◌-◌, ◌≤◌, length}
use Rattle.tape_spec.specs.Limits.{most_records}
use Rattle.listing.proofs.list_chunk.Given as goal

abbrev pub invariant-loop-taken : goal.invariant-loop-taken
invariant-loop-taken l = record { in_chunk : l.taken ≤ length l.chunk; few_enough : l.tape.records ≤ most_records }

abbrev pub decreases-loop-taken : goal.decreases-loop-taken
decreases-loop-taken l = length l.chunk - l.taken
