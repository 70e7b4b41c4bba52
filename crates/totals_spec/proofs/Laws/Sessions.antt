-- A tape handed over in any chunks is reported as the whole tape is; there is a session of every tape; and what is asked of its report holds.
-- Assumes nothing.
use mathlib.Core.Path.{◌≡◌, refl, sym, ap, ap₂, subst⁻¹, ◌∙◌}
use mathlib.Core.Logic.{inl, inr}
use mathlib.Core.Bool.{true, false, not-eq-not}
use mathlib.Core.List.{List, [], ◌++◌, append-nil}
use Prim.Native.Nat.{ℕ, ◌+◌}
use native.Mathlib.Nat.{zero-add}
use native.Mathlib.Omega.{arith}
use lib.ListN.{length, drop, drop_of_length-le}
use lib.Seq.{drop-append_seam}
use Rattle.std.specs.Prelude.{Ok}
use Rattle.ground.specs.declared.refusal.Refusal.TheVariants.{TapeTooLong}
use Rattle.ground.proofs.Laws.Lists.{drop-on}
use Rattle.tape_spec.specs.declared.tape.Line.{Line}
use Rattle.tape_spec.specs.declared.tape.Line.TheVariants.{Point, Addressed}
use Rattle.tape_spec.specs.Rows.{header_row, last_row}
use Rattle.tape_spec.specs.Whole.{Record, Parts, parts, fresh_receivers, receiver_on, entries, entry_rows}
use Rattle.tape_spec.specs.Frames.{bytes_on}
use Rattle.tape_spec.specs.Taping.{ending}
use Rattle.tape_spec.specs.Sessions.{Listing}
use Rattle.tape_spec.proofs.Laws.Whole.{parts-few}
use Rattle.tape_spec.proofs.Laws.Sessions.{listing-shows}
use Rattle.totals_spec.specs.declared.totals.Totals.{Totals}
use Rattle.totals_spec.specs.Whole.{sums_on, line_report, Reported, ranked, nothing, no_report, is_full, report_of}
use Rattle.totals_spec.specs.Adding.{fresh_totals, account, after_bytes, totals_after, AddedOut, added_out, reported}
use Rattle.totals_spec.specs.Sessions.{TotalsSession, over, call, Reporting, begun, RunsOver, part_of, Bounded, Ranked}
use Rattle.totals_spec.proofs.Laws.Chunks.{chunk-parts}
use Rattle.totals_spec.proofs.Laws.Adding.{totals-over, totals-none, totals-append, Fine, fine-good, fresh-fine, totals-fine, adds, reported-answers}
use Rattle.totals_spec.proofs.Laws.Sums.{sums-are}
use Rattle.totals_spec.proofs.Laws.Bounds.{bounded}
use Rattle.totals_spec.proofs.Laws.Ranking.{ranks, ranked-point, ranked-addressed, ranked-rest}
use Rattle.totals_spec.proofs.Laws.Limit.{full_is}

-- ---- however a tape is cut

module _ (bytes : List ℕ) where
  session-reports : {t : Totals} {before : ℕ} {out : Reported} → Fine t → TotalsSession bytes t before out
      → out ≡ reported (totals_after t (drop before bytes))
  session-reports {t} {before} fine (over r (inl out) says) =
      says ∙ ap reported (sym (totals-none t) ∙ ap (totals_after t) (sym (drop_of_length-le bytes out)))
  session-reports {t} {before} fine (over r (inr out) says) = says ∙ ap reported (sym (totals-over t (drop before bytes) out))
  session-reports {t} {before} fine (call chunk rest r continues says more) =
      let is : (added_out t r).totals ≡ totals_after t chunk = ap (λ (d : AddedOut). d.totals) (says ∙ adds t chunk (fine-good fine)) in
      let left : drop (before + length chunk) bytes ≡ rest = drop-on bytes before (length chunk) continues ∙ drop-append_seam chunk rest in
      session-reports (subst⁻¹ Fine is (totals-fine fine chunk)) more
      ∙ ap₂ (λ (u : Totals) (l : List ℕ). reported (totals_after u l)) is left
      ∙ ap reported (sym (totals-append t chunk rest))
      ∙ ap (λ (l : List ℕ). reported (totals_after t l)) (sym continues)

-- the totals of a whole tape
module _ (tape : List ℕ) where
  abbrev rs : List Record
  rs = (parts 0 tape).records

  whole-sums : (line : Line) → (after_bytes (account (receiver_on line fresh_receivers) nothing) (bytes_on line rs)).sums ≡ sums_on line rs
  whole-sums Point = sums-are Point rs refl refl
  whole-sums Addressed = sums-are Addressed rs refl refl

  whole-point : (totals_after fresh_totals tape).point ≡ sums_on Point rs
  unfolding totals_after
  whole-point =
      ap (λ (p : Parts). (after_bytes (account (receiver_on Point fresh_receivers) nothing) (bytes_on Point p.records)).sums) (chunk-parts tape 0)
      ∙ whole-sums Point

  whole-addressed : (totals_after fresh_totals tape).addressed ≡ sums_on Addressed rs
  unfolding totals_after
  whole-addressed =
      ap (λ (p : Parts). (after_bytes (account (receiver_on Addressed fresh_receivers) nothing) (bytes_on Addressed p.records)).sums)
      (chunk-parts tape 0)
      ∙ whole-sums Addressed

  whole-ending : ending (totals_after fresh_totals tape).tape.next ≡ (parts 0 tape).ending
  unfolding totals_after
  whole-ending = ap (λ (p : Parts). p.ending) (chunk-parts tape 0)

  whole-records : (totals_after fresh_totals tape).tape.records ≡ length rs
  unfolding totals_after
  whole-records = ap (λ (p : Parts). 0 + length p.records) (chunk-parts tape 0) ∙ zero-add (length rs)

  whole-report : reported (totals_after fresh_totals tape) ≡ report_of tape
  unfolding report_of reported
  whole-report =
      rw (fine-good (totals-fine fresh-fine tape), whole-ending, whole-point, whole-addressed, whole-records) refl

-- the theorem: whatever the chunks were, the report is that of the whole tape
pub report-is : {bytes : List ℕ} {out : Reported} → Reporting bytes out → out ≡ report_of bytes
report-is {bytes} (begun fresh session) =
    session-reports bytes (subst⁻¹ Fine fresh fresh-fine) session
    ∙ ap (λ (t : Totals). reported (totals_after t bytes)) fresh
    ∙ whole-report bytes

-- ---- a session of every tape

pub report-some : (bytes : List ℕ) → (out : Reported) × Reporting bytes out
report-some bytes =
    let t = totals_after fresh_totals bytes in
    let a = reported-answers t in
    let all : bytes ≡ bytes ++ [] = sym (append-nil bytes) in
    (_, begun refl (call bytes [] (Ok t) all (sym (adds fresh_totals bytes (fine-good fresh-fine))) (over {before = 0 + length bytes} a.0 (inl (omega arith)) a.1)))

-- ---- refused exactly where a byte follows the last permitted record

pub too_long : {bytes : List ℕ} {out : Reported} → Reporting bytes out → RunsOver bytes → out ≡ no_report TapeTooLong
unfolding report_of
too_long {bytes} r runs = report-is r ∙ rw ((full_is bytes).1 runs)

-- otherwise every line's numbers are those of the whole tape, and what is asked of them holds
module _ {bytes : List ℕ} {out : Reported} (session : Reporting bytes out) (fits : RunsOver bytes → ⊥) where
  abbrev p : Parts
  p = parts 0 bytes

  short : is_full p.ending ≡ false
  short = (not-eq-not {b = false}).0 (λ (full : is_full p.ending ≡ true). fits ((full_is bytes).0 full))

  ranked-is : out ≡ ranked (sums_on Point p.records) (sums_on Addressed p.records) p.ending (length p.records)
  unfolding report_of
  ranked-is = report-is session ∙ rw short

  -- not refused, with how the tape ended and its whole records
  pub report-rest : (out.refusal ≡ 0) × (out.ending ≡ p.ending) × (out.records ≡ length p.records)
  report-rest = rw ranked-is (ranked-rest (sums_on Point p.records) (sums_on Addressed p.records) p.ending (length p.records))

  -- each line's part
  pub report-part : (line : Line) → part_of line out ≡ line_report line (sums_on line p.records)
  report-part Point =
      rw ranked-is (ranked-point (sums_on Point p.records) (sums_on Addressed p.records) p.ending (length p.records))
  report-part Addressed =
      rw ranked-is (ranked-addressed (sums_on Point p.records) (sums_on Addressed p.records) p.ending (length p.records))

  pub report-bounded : (line : Line) → Bounded (part_of line out)
  report-bounded line =
      subst⁻¹ Bounded (report-part line) (bounded line p.records (omega (arith, parts-few bytes 0 (omega arith))))

  pub report-ranked : Ranked out
  report-ranked = subst⁻¹ Ranked ranked-is (ranks (sums_on Point p.records) (sums_on Addressed p.records) p.ending (length p.records))

  -- the listing of the same tape, whatever its chunks and buffers were, has the same last row
  pub report-agrees : {text : List ℕ} → Listing bytes text
      → text ≡ header_row ++ (entry_rows (entries 0 fresh_receivers p.records) ++ last_row out.ending out.records)
  report-agrees listing = rw (report-rest.1, report-rest.2) (listing-shows listing).0
