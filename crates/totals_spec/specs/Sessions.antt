-- A session: a whole tape handed over in chunks, cut at will, and the report that ends it; and what is asked of a report. 02, L1.
-- Assumes nothing.
use Rattle.std.specs.Prelude.{ℕ, ◌+◌, ◌*◌, ◌≤◌, ◌≡◌, ◌⊎◌, true, cond, List, ◌∷◌, ◌++◌, Result, pos, neg_ℤ, length, drop, ◌≤ℤ◌}
use Rattle.ground.specs.declared.refusal.Refusal.{Refusal}
use Rattle.tape_spec.specs.declared.tape.Line.{Line}
use Rattle.tape_spec.specs.declared.tape.Line.TheVariants.{Point, Addressed}
use Rattle.tape_spec.specs.Limits.{most_records}
use Rattle.tape_spec.specs.Whole.{Record, taped}
use Rattle.tape_spec.specs.Taping.{is_over}
use Rattle.totals_spec.specs.declared.totals.Totals.{Totals}
use Rattle.totals_spec.specs.declared.totals.LineReport.{LineReport}
use Rattle.totals_spec.specs.declared.totals.Report.{Report}
use Rattle.totals_spec.specs.Whole.{is_on, Reported}
use Rattle.totals_spec.specs.Adding.{fresh_totals, added_out, added, reported_by, reported}

-- What is left of a tape after this many bytes, and what is reported: either the tape is used up or nothing further is read, and the report is
-- asked for; or there is one call more, on any chunk, empty too, that continues there, and the session goes on with the totals that the
-- call answered.
pub data TotalsSession (bytes : List ℕ) : Totals → ℕ → Reported → Type 0 where
  over : {t : Totals} {before : ℕ} (r : Result Report Refusal)
      → (length bytes ≤ before) ⊎ (is_over t.tape.next ≡ true)
      → reported_by r ≡ reported t
      → TotalsSession bytes t before (reported_by r)
  call : {t : Totals} {before : ℕ} {out : Reported} (chunk rest : List ℕ) (r : Result Totals Refusal)
      → drop before bytes ≡ chunk ++ rest
      → added_out t r ≡ added t chunk
      → TotalsSession bytes (added_out t r).totals (before + length chunk) out
      → TotalsSession bytes t before out

-- a session of the whole tape, from fresh totals on
pub data Reporting (bytes : List ℕ) : Reported → Type 0 where
  begun : {t : Totals} {out : Reported} → t ≡ fresh_totals → TotalsSession bytes t 0 out → Reporting bytes out

-- ---- what is asked of a report

-- a byte follows the last permitted record
pub record RunsOver (bytes : List ℕ) : Type 0 where
  pub records : List Record
  pub byte : ℕ
  pub after : List ℕ
  pub most : length records ≡ most_records
  pub split : bytes ≡ taped records ++ (byte ∷ after)

-- a line's part of a report
abbrev pub part_of : Line → Reported → LineReport
part_of line r = cond (is_on line r.first.line) r.first r.second

-- nothing wraps: all of it follows from 2^32 - 1 records, and from images that do not overlap
pub record Bounded (r : LineReport) : Type 0 where
  pub few : r.sums.heard ≤ most_records
  pub frames : r.sums.frames ≤ r.sums.heard
  pub inside : r.sums.inside ≤ r.sums.heard
  pub reserved : r.sums.inside ≤ r.sums.reserved
  pub twice : r.sums.reserved ≤ 2 * r.sums.inside
  pub least : neg_ℤ (pos r.sums.heard) ≤ℤ r.difference
  pub most : r.difference ≤ℤ pos r.sums.heard

-- each line once
pub data EachLine : Line → Line → Type 0 where
  point_first : EachLine Point Addressed
  addressed_first : EachLine Addressed Point

-- heard never rises down the list, and when equal the point line is first
pub record Ranked (r : Reported) : Type 0 where
  pub lines : EachLine r.first.line r.second.line
  pub falls : r.second.sums.heard ≤ r.first.sums.heard
  pub ties : r.first.sums.heard ≡ r.second.sums.heard → r.first.line ≡ Point
