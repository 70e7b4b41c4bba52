-- `put_line`: the part from the place on has room for the longest row, so the row stands there whole.
use Rattle.std.proofs.Common.{◌≡◌, ℕ, ◌+◌, ◌-◌, ◌≤◌, List, length, ap, arith}
use borrow.Rule.Slice.PartMut.{put_mid}
use Rattle.ground.specs.Laying.{laid}
use Rattle.totals_spec.specs.Rows.{sums_row, most_row}
use Rattle.totals_spec.proofs.Laws.Rows.{row_within}
use Rattle.report.proofs.Laws.Parts.{part-ok, part_placed}
use Rattle.report.proofs.put_line.Goals as goal
use Rattle.report.proofs.put_line.Goals.{After-unwrap}

pub unwrap-requires : goal.unwrap-requires
unwrap-requires c =
    let a = c.args in
    part-ok c.write_sums.result _ a.text.now a.at (sums_row a.report.line a.report.sums) c.write_sums.ensures
    (omega (arith, row_within a.report.line a.report.sums, c.requires))

-- the row of a line, put to a place with room for the longest
record Lies (row text : List ℕ) (at end : ℕ) (left : List ℕ) : Type 0 where
  short : end ≤ most_row
  ends : end ≡ length row
  stands : put_mid at (length text - at) text left ≡ laid text at row

lies : (c : After-unwrap) → let a = c.args in
    Lies (sums_row a.report.line a.report.sums) a.text.now a.at c.unwrap.result c.write_sums.new.out
lies c =
    let a = c.args in
    let short = row_within a.report.line a.report.sums in
    let placed = part_placed a.text.now a.at (sums_row a.report.line a.report.sums) (rw c.unwrap.ensures at c.write_sums.ensures)
    (omega (arith, short, c.requires)) in
    record { short = omega (arith, placed.0, short); ends = placed.0; stands = placed.1 }

pub overflow_add-result : goal.overflow_add-result
overflow_add-result c = omega (arith, (lies c).short)

pub returns-clause-within : goal.returns-clause-within
returns-clause-within c = omega (arith, (lies c).short)

pub returns-clause-ends : goal.returns-clause-ends
returns-clause-ends c = ap (λ (n : ℕ). c.args.at + n) (lies c).ends

pub returns-clause-stands : goal.returns-clause-stands
returns-clause-stands c = (lies c).stands
