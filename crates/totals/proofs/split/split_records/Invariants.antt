-- `split::split_records`: at each turn, what is left of the part gives, after the bytes so far, what all of it gives.
-- Assumes nothing.
use mathlib.Core.Path.{◌≡◌}
use Prim.Native.Nat.{◌-◌, ◌≤◌}
use lib.ListN.{length, take}
use Rattle.tape_spec.specs.declared.tape.Next.TheVariants.{Kind}
use Rattle.totals.specs.Splitting.{split_on}
use Rattle.totals.proofs.Laws.Splitting.{Splits}
use Rattle.totals.proofs.split.split_records.Given as goal

abbrev pub invariant-loop-count : goal.invariant-loop-count
invariant-loop-count l =
    Splits l.records l.rest (split_on l.records Kind l.rest (take l.on_point-2 l.initial.point) (take l.on_addressed-2 l.initial.addressed)) l.count l.on_point l.point l.on_addressed l.addressed
    × (l.count ≤ l.limit) × (length l.point ≡ length l.initial.point) × (length l.addressed ≡ length l.initial.addressed)

abbrev pub decreases-loop-count : goal.decreases-loop-count
decreases-loop-count l =
    l.limit - l.count
