-- `put_report`: each row has room after the one before, and together they are the report's text.
use Rattle.std.proofs.Common.{◌≡◌, ℕ, ◌+◌, ◌-◌, ◌≤◌, List, ◌++◌, length, refl, ap, ◌∙◌, append_assoc, arith}
use borrow.Rule.Slice.PartMut.{put_mid}
use Rattle.ground.specs.Laying.{laid}
use Rattle.ground.proofs.Laws.Laying.{length-laid}
use Rattle.text.specs.Ascii.{ascii}
use Rattle.tape_spec.specs.Rows.{last_row}
use Rattle.tape_spec.proofs.Laws.Rows.{last_within}
use Rattle.totals_spec.specs.declared.totals.Report.{Report}
use Rattle.totals_spec.specs.Rows.{title_row, sums_row, report_text}
use Rattle.report.proofs.Laws.Parts.{put-ok, part-ok, part_placed, Front, front-first, front-more, take-of-front}
use Rattle.report.proofs.put_report.Goals as goal
use Rattle.report.proofs.put_report.Goals.{After-unwrap-title, After-unwrap}

-- the rows of a report
length-title : length title_row ≡ 45
unfolding title_row ascii
length-title = refl

abbrev first_row : Report → List ℕ
first_row r = sums_row r.first.line r.first.sums

abbrev second_row : Report → List ℕ
second_row r = sums_row r.second.line r.second.sums

abbrev end_row : Report → List ℕ
end_row r = last_row r.ending r.records

pub unwrap-title-requires : goal.unwrap-title-requires
unwrap-title-requires c = put-ok c.write_title.result _ title_row c.args.text.now c.write_title.ensures (omega (arith, length-title, c.requires))

-- the title at the front of a buffer that has room for a report
record Titled (text : List ℕ) (end : ℕ) (now : List ℕ) : Type 0 where
  ends : end ≡ 45
  front : Front text title_row end now

titled : (c : After-unwrap-title) → Titled c.args.text.now c.unwrap-title.result c.write_title.new.out
titled c =
    let front = front-first c.args.text.now title_row (rw c.unwrap-title.ensures at c.write_title.ensures) (omega (arith, length-title, c.requires)) in
    record { ends = omega (arith, front.0, length-title); front = front }

pub put_line-first-requires : goal.put_line-first-requires
put_line-first-requires c =
    omega (arith, (titled (goal.at.put_line-first-requires c).After-unwrap-title).ends, c.write_title.auto)

pub put_line-second-requires : goal.put_line-second-requires
put_line-second-requires c = omega (arith, (titled (goal.at.put_line-second-requires c).After-unwrap-title).ends)

pub slice_bounds-write_ending-count : goal.slice_bounds-write_ending-count
slice_bounds-write_ending-count c = omega (arith, (titled (goal.at.slice_bounds-write_ending-count c).After-unwrap-title).ends)

pub slice_bounds-write_ending-start : goal.slice_bounds-write_ending-start
slice_bounds-write_ending-start c = omega (arith, (titled (goal.at.slice_bounds-write_ending-start c).After-unwrap-title).ends)

pub unwrap-requires : goal.unwrap-requires
unwrap-requires c =
    let r = c.args.report in
    let s = c.put_line-second in
    part-ok c.write_ending.result _ s.new.text s.result (end_row r) c.write_ending.ensures
    (omega (arith, last_within r.ending r.records (omega arith), (titled (goal.at.unwrap-requires c).After-unwrap-title).ends))

-- the last row where the title and the rows of two lines are before it
record Last (r : Report) (text : List ℕ) (at end : ℕ) (left : List ℕ) : Type 0 where
  within : at + end ≤ length text
  ends : end ≡ length (end_row r)
  stands : put_mid at (length text - at) text left ≡ laid text at (end_row r)
  kept : length (put_mid at (length text - at) text left) ≡ length text

last : (c : After-unwrap) → let s = c.put_line-second in Last c.args.report s.new.text s.result c.unwrap.result c.write_ending.new.out
last c =
    let r = c.args.report in
    let s = c.put_line-second in
    let short = last_within r.ending r.records (omega arith) in
    let fits : s.result + length (end_row r) ≤ length s.new.text =
    omega (arith, short, (titled (goal.at.overflow_add-result c).After-unwrap-title).ends) in
    let placed = part_placed s.new.text s.result (end_row r) (rw c.unwrap.ensures at c.write_ending.ensures) fits in record {
      within = omega (arith, placed.0, fits);
      ends = placed.0;
      stands = placed.1;
      kept = ap length placed.1 ∙ length-laid s.new.text s.result (end_row r) fits;
    }

pub overflow_add-result : goal.overflow_add-result
overflow_add-result c = omega (arith, (last c).within)

pub returns-clause-within : goal.returns-clause-within
returns-clause-within c = omega (arith, (last c).within, (last c).kept)

pub returns-clause-stands : goal.returns-clause-stands
unfolding report_text
returns-clause-stands c =
    let r = c.args.report in
    let text = c.args.text.now in
    let f = c.put_line-first in
    let s = c.put_line-second in
    let t = titled (goal.at.returns-clause-stands c).After-unwrap-title in
    let l = last c in
    let with_first = front-more text title_row (first_row r) t.front f.ensures.ends f.ensures.stands in
    let with_second = front-more text (title_row ++ first_row r) (second_row r) with_first s.ensures.ends s.ensures.stands in
    let lines = (title_row ++ first_row r) ++ second_row r in
    let whole = front-more text lines (end_row r) with_second (ap (λ (n : ℕ). s.result + n) l.ends) l.stands in
    take-of-front text (lines ++ end_row r) whole ∙ simp append_assoc
