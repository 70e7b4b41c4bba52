-- `list_blocks`: no block counts a record too many.
use Rattle.std.proofs.Common.{◌≤◌}
use Rattle.tape_spec.specs.Limits.{most_records}
use Rattle.listing.proofs.list_blocks.Given as goal

abbrev pub invariant-loop : goal.invariant-loop
invariant-loop l = l.tape.records ≤ most_records
