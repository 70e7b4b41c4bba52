-- The rows of a report. 02, L1; its first row and the order of its fields are as docs/REPORT.md shows them. Assumes nothing.
use Rattle.std.specs.Prelude.{ℕ, ◌+◌, ◌*◌, List, ◌∷◌, ◌++◌, pos, ◌-ℤ◌}
use Rattle.text.specs.Ascii.{ascii}
use Rattle.text.specs.Decimal.{decimal, signed}
use Rattle.tape_spec.specs.declared.tape.Line.{Line}
use Rattle.tape_spec.specs.declared.tape.Line.TheVariants.{Point, Addressed}
use Rattle.tape_spec.specs.Limits.{most_last}
use Rattle.tape_spec.specs.Rows.{last_row}
use Rattle.totals_spec.specs.declared.totals.Sums.{Sums}
use Rattle.totals_spec.specs.Whole.{Reported}

-- the row above both lines'
unfoldable pub title_row : List ℕ
title_row = ascii "line frames heard inside reserved difference\n"

unfoldable pub line_name : Line → List ℕ
line_name Point = ascii "P"
line_name Addressed = ascii "A"

-- a number after a blank
abbrev pub field : List ℕ → List ℕ
field digits = 0x20 ∷ digits

-- the line, its four sums, and reserved minus heard
unfoldable pub sums_row : Line → Sums → List ℕ
sums_row line s =
    line_name line
    ++ (field (decimal s.frames)
    ++ (field (decimal s.heard)
    ++ (field (decimal s.inside)
    ++ (field (decimal s.reserved) ++ (field (signed (pos s.reserved -ℤ pos s.heard)) ++ ascii "\n")))))

-- no row is longer: a letter, five numbers of 20 digits, each after a blank, the sign of the last, and the row's end
abbrev pub most_row : ℕ
most_row = 108

-- the title, a row for each line in its rank, and the last row as a listing has it
unfoldable pub report_text : Reported → List ℕ
report_text r =
    title_row
    ++ (sums_row r.first.line r.first.sums ++ (sums_row r.second.line r.second.sums ++ last_row r.ending r.records))

-- no report is longer: the title, two rows, and the last row
abbrev pub most_text : ℕ
most_text = 45 + 2 * most_row + most_last
