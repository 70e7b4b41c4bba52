-- What the report of a tape promises, over every session of calls: that the numbers are exact, what bounds them, and how they agree with the
-- listing. 02, L1. `proofs/Laws/Reporting` proves it. Assumes nothing.
use Rattle.std.specs.Prelude.{◌≡◌, List, ◌++◌, ℕ, length, Result}
use Rattle.ground.specs.declared.refusal.Refusal.{Refusal}
use Rattle.ground.specs.declared.refusal.Refusal.TheVariants.{TapeTooLong}
use Rattle.tape_spec.specs.declared.tape.Line.{Line}
use Rattle.tape_spec.specs.Rows.{header_row, last_row}
use Rattle.tape_spec.specs.Whole.{parts, Entry, entry_rows}
use Rattle.tape_spec.specs.Frames.{Shows}
use Rattle.tape_spec.specs.Sessions.{Listing}
use Rattle.totals_spec.specs.declared.totals.Totals.{Totals}
use Rattle.totals_spec.specs.Whole.{sums_over, line_report, Reported, no_report, report_of}
use Rattle.totals_spec.specs.Adding.{added_out, added}
use Rattle.totals_spec.specs.Sessions.{Reporting, RunsOver, part_of, Bounded, Ranked}
use Rattle.demands.specs.Going.{ReachedTotals}

-- of a tape on which no byte follows the last permitted record
pub record Exact (bytes : List ℕ) (out : Reported) : Type 0 where
  -- not refused, with how the tape ended and its whole records
  pub fine : (out.refusal ≡ 0) × (out.ending ≡ (parts 0 bytes).ending) × (out.records ≡ length (parts 0 bytes).records)
  -- there are entries whose FRAMEs are exactly the frames whose image stands in what was heard on their line,
  pub all : List Entry
  pub shows : Shows (parts 0 bytes).records all
  -- every listing of the tape has their rows, and the same last row as the report,
  pub agrees : {text : List ℕ} → Listing bytes text → text ≡ header_row ++ (entry_rows all ++ last_row out.ending out.records)
  -- and each line's numbers are the sums over these FRAMEs, and the number of its bytes
  pub lines : (line : Line) → part_of line out ≡ line_report line (sums_over line (parts 0 bytes).records all)
  pub bounded : (line : Line) → Bounded (part_of line out)
  pub ranked : Ranked out

pub record Request1 : Type 0 where
  -- whatever the chunks were, the report is that of the whole tape
  pub whole : {bytes : List ℕ} {out : Reported} → Reporting bytes out → out ≡ report_of bytes
  -- refused where a byte follows the last permitted record, and otherwise exact
  pub refused : {bytes : List ℕ} {out : Reported} → Reporting bytes out → RunsOver bytes → out ≡ no_report TapeTooLong
  pub exact : {bytes : List ℕ} {out : Reported} → Reporting bytes out → (RunsOver bytes → ⊥) → Exact bytes out
  -- there is a session of every tape, and none of its chunks is refused
  pub some : (bytes : List ℕ) → (out : Reported) × Reporting bytes out
  pub goes_on : {t : Totals} → ReachedTotals t → (chunk : List ℕ) (r : Result Totals Refusal) → added_out t r ≡ added t chunk
      → (added_out t r).refusal ≡ 0
