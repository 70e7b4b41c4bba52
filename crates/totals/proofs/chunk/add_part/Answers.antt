-- `chunk::add_part`: each line's receiver hears what was split off for it, which are the line's bytes in the part's records.
-- Assumes nothing.
use mathlib.Core.Path.{◌≡◌, ap}
use mathlib.Core.Bool.{false}
use Prim.Native.Nat.{◌≤◌}
use native.Mathlib.Omega.{arith}
use lib.ListN.{length}
use Rattle.tape_spec.specs.declared.tape.Line.{Line}
use Rattle.tape_spec.specs.declared.tape.Line.TheVariants.{Point, Addressed}
use Rattle.tape_spec.specs.Limits.{most_records}
use Rattle.totals_spec.specs.Adding.{sums_at, bad_sums}
use Rattle.totals_spec.proofs.Laws.Counting.{within-fine, within_more}
use Rattle.totals_spec.proofs.Laws.Adding.{Fine, fine-is, on-good, permitted}
use Rattle.totals.specs.Splitting.{Pieces, parted_in}
use Rattle.totals.proofs.Laws.Chunks.{joined_is, pieces-few}
use Rattle.totals.proofs.chunk.add_part.Goals as goal
use Rattle.totals.proofs.chunk.add_part.Goals.{After-split-parted}

-- totals that are not bad
fine : (c : After-split-parted) → Fine c.args.totals
fine c = fine-is c.args.totals (omega arith) c.requires.good

-- no sum of totals that no call refuses is more than a whole tape can give
small : (c : After-split-parted) (line : Line) → bad_sums most_records (sums_at line c.args.totals) ≡ false
small c line = within-fine most_records (sums_at line c.args.totals) (within_more (fine c).few ((fine c).sums line))

-- what was split off for either line
heard-few : (c : After-split-parted)
    → let r = parted_in c.split-parted.result c.split-parted.new.point c.split-parted.new.addressed in
    (length r.point ≤ most_records) × (length r.addressed ≤ most_records)
heard-few c =
    let tape = c.args.totals.tape in
    let few = pieces-few tape.records tape.next c.args.part.now (fine c).few (permitted (fine c)) in
    let split = c.split-parted.ensures.heard in
    (omega (arith, ap (λ (p : Pieces). length p.point) split, few.0), omega (arith, ap (λ (p : Pieces). length p.addressed) split, few.1))

pub split-parted-requires-clause-permitted : goal.split-parted-requires-clause-permitted
split-parted-requires-clause-permitted c = permitted (fine-is c.args.totals (omega arith) c.requires.good)

pub hear-on_point-requires-clause-counted : goal.hear-on_point-requires-clause-counted
hear-on_point-requires-clause-counted c = small (goal.at.hear-on_point-requires-clause-counted c).After-split-parted Point

pub hear-on_point-requires-clause-short : goal.hear-on_point-requires-clause-short
hear-on_point-requires-clause-short c = (heard-few (goal.at.hear-on_point-requires-clause-short c).After-split-parted).0

pub hear-on_addressed-requires-clause-good : goal.hear-on_addressed-requires-clause-good
hear-on_addressed-requires-clause-good c = on-good (fine (goal.at.hear-on_addressed-requires-clause-good c).After-split-parted) Addressed

pub hear-on_addressed-requires-clause-counted : goal.hear-on_addressed-requires-clause-counted
hear-on_addressed-requires-clause-counted c = small (goal.at.hear-on_addressed-requires-clause-counted c).After-split-parted Addressed

pub hear-on_addressed-requires-clause-short : goal.hear-on_addressed-requires-clause-short
hear-on_addressed-requires-clause-short c = (heard-few (goal.at.hear-on_addressed-requires-clause-short c).After-split-parted).1

pub returns : goal.returns
returns c =
    let s = c.split-parted in
    joined_is c.args.totals c.args.part.now (parted_in s.result s.new.point s.new.addressed)
    s.ensures.heard c.hear-on_point.ensures c.hear-on_addressed.ensures
