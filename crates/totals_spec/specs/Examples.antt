-- Tapes with their reports, and totals with what a report of them answers, as rows of one table. The claim is that each holds;
-- `proofs/Laws/Examples` proves it. 02, L1. Assumes nothing.
use Rattle.std.specs.Prelude.{ℕ, ◌≡◌, List, [], ◌∷◌, ℤ, pos, negsuc}
use Prim.Native.String.{String}
use Rattle.text.specs.Ascii.{ascii}
use Rattle.tape_spec.specs.declared.tape.Line.TheVariants.{Point}
use Rattle.tape_spec.specs.declared.tape.Next.{Next}
use Rattle.tape_spec.specs.declared.tape.Next.TheVariants.{Kind, Body, Bad, Full}
use Rattle.tape_spec.specs.Whole.{fresh_receivers}
use Rattle.tape_spec.specs.Taping.{tape_of}
use Rattle.totals_spec.specs.declared.totals.Sums.{Sums}
use Rattle.totals_spec.specs.declared.totals.Totals.{Totals}
use Rattle.totals_spec.specs.Whole.{sums_of, nothing, line_report, report_of}
use Rattle.totals_spec.specs.Adding.{totals_after, added, reported}
use Rattle.totals_spec.specs.Rows.{report_text}

pub data Example : Type 0 where
  reports : (tape : List ℕ) (printed : String) → Example
  -- a line's difference, for these sums
  differs : (sums : Sums) (difference : ℤ) → Example
  -- a report asked for after this many records, with this byte next and these sums of the point line
  answers : (records : ℕ) (next : Next) (point : Sums) (refusal : ℕ) → Example
  -- the same, of a chunk that is added
  adds : (records : ℕ) (next : Next) (point : Sums) (refusal : ℕ) → Example
  -- after this many records a chunk is added and the report asked for
  ends : (records : ℕ) (chunk : List ℕ) (refusal : ℕ) → Example

abbrev totals : ℕ → Next → Sums → Totals
totals records next point = record { tape = tape_of records next fresh_receivers; point = point; addressed = nothing }

abbrev pub Holds : Example → Type 0
Holds (reports tape printed) = report_text (report_of tape) ≡ ascii printed
Holds (differs sums difference) = (line_report Point sums).difference ≡ difference
Holds (answers records next point refusal) = (reported (totals records next point)).refusal ≡ refusal
Holds (adds records next point refusal) = (added (totals records next point) []).refusal ≡ refusal
Holds (ends records chunk refusal) = (reported (totals_after (totals records Kind nothing) chunk)).refusal ≡ refusal

abbrev pub examples : List Example
examples =
    -- 01's tape: a frame on each line, and nothing else
    reports (0x01 ∷ 0xFD ∷ 0x01 ∷ 0x00 ∷ 0x01 ∷ 0x00 ∷ 0x01 ∷ 0x47 ∷ 0x01 ∷ 0x0F ∷ 0x01 ∷ 0xFE ∷ 0x02 ∷ 0xFD ∷ 0x02 ∷ 0x00 ∷ 0x02 ∷ 0x01 ∷ 0x02 ∷ 0x2A ∷ 0x02 ∷ 0x55 ∷ 0x02 ∷ 0x80 ∷ 0x02 ∷ 0xFE ∷ [])
    "line frames heard inside reserved difference\nA 1 7 7 12 5\nP 1 6 6 10 4\nend 13\n"
    ∷ reports [] "line frames heard inside reserved difference\nP 0 0 0 0 0\nA 0 0 0 0 0\nend 0\n"
    -- a cut record's kind is not heard; nothing was
    ∷ reports (0x01 ∷ []) "line frames heard inside reserved difference\nP 0 0 0 0 0\nA 0 0 0 0 0\ncut 0\n"
    -- below zero: what was heard is no frame; nothing is read after an unknown kind
    ∷ reports (0x02 ∷ 0x00 ∷ 0x02 ∷ 0xFE ∷ 0x03 ∷ 0x01 ∷ 0xFD ∷ [])
    "line frames heard inside reserved difference\nA 0 2 0 0 -2\nP 0 0 0 0 0\nbad 2\n"
    -- equally loud: the point line first
    ∷ reports (0x02 ∷ 0x00 ∷ 0x01 ∷ 0x00 ∷ []) "line frames heard inside reserved difference\nP 0 1 0 0 -1\nA 0 1 0 0 -1\nend 2\n"
    -- a frame with noise before it, then CHECK, which is heard and not counted, then a frame that the tape's end cuts
    ∷ reports (0x01 ∷ 0x55 ∷ 0x01 ∷ 0xFD ∷ 0x01 ∷ 0x00 ∷ 0x01 ∷ 0x00 ∷ 0x01 ∷ 0x47 ∷ 0x01 ∷ 0x0F ∷ 0x01 ∷ 0xFE ∷ 0x01 ∷ 0xFD ∷ 0x01 ∷ 0x00 ∷ 0x01 ∷ 0x00 ∷ 0x01 ∷ 0x47 ∷ 0x01 ∷ 0x0E ∷ 0x01 ∷ 0xFE ∷ 0x01 ∷ 0xFD ∷ 0x01 ∷ [])
    "line frames heard inside reserved difference\nP 1 14 6 10 -4\nA 0 0 0 0 0\ncut 14\n"
    -- a stuffed frame: its content is 00 FD 00 FD with the sum, its image has two bytes more
    ∷ reports (0x02 ∷ 0xFD ∷ 0x02 ∷ 0x00 ∷ 0x02 ∷ 0xFF ∷ 0x02 ∷ 0x02 ∷ 0x02 ∷ 0x00 ∷ 0x02 ∷ 0xFF ∷ 0x02 ∷ 0x02 ∷ 0x02 ∷ 0xFE ∷ [])
    "line frames heard inside reserved difference\nA 1 8 8 10 2\nP 0 0 0 0 0\nend 8\n"
    -- reserved minus heard, as a signed number: a frame of five bytes, and three bytes of noise
    ∷ differs (sums_of 1 7 7 12) (pos 5)
    ∷ differs (sums_of 0 3 0 0) (negsuc 2)
    -- the last permitted record, and a byte after it
    ∷ answers 0xFFFFFFFF Kind nothing 0
    ∷ answers 0xFFFFFFFF Full nothing 10
    ∷ answers 0xFFFFFFFF (Body Point) nothing 4
    ∷ answers 7 Bad nothing 0
    ∷ ends 0xFFFFFFFE (0x01 ∷ 0xFD ∷ []) 0
    ∷ ends 0xFFFFFFFE (0x01 ∷ []) 0
    ∷ ends 0xFFFFFFFE (0x01 ∷ 0xFD ∷ 0x01 ∷ []) 10
    ∷ ends 0xFFFFFFFF (0x07 ∷ []) 10
    -- sums that so many records can give, and such that they cannot
    ∷ adds 2 Kind (sums_of 2 2 260 260) 0
    ∷ adds 2 Kind (sums_of 3 2 260 260) 4
    ∷ adds 2 Kind (sums_of 2 3 260 260) 4
    ∷ adds 2 Kind (sums_of 2 2 261 260) 4
    ∷ adds 2 Kind (sums_of 2 2 260 261) 4
    ∷ answers 2 Full (sums_of 3 2 260 260) 4
    ∷ []
