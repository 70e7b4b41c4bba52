-- Totals after a chunk: cuts do not matter, and no call of a session is refused.
-- Assumes nothing.
use mathlib.Core.Path.{◌≡◌, refl, ap, ap₂, ◌∙◌}
use mathlib.Core.Bool.{true, false, ◌&&◌, ◌||◌}
use mathlib.Core.List.{List, [], ◌++◌}
use Prim.Native.Nat.{ℕ, ◌+◌, ◌≤◌}
use native.Mathlib.Nat.{add-zero}
use native.Mathlib.Omega.{arith}
use lib.Dec.{eqb, ltb}
use lib.ListN.{length, length-append}
use Rattle.std.specs.Prelude.{Result, Ok, Err}
use Rattle.ground.specs.declared.refusal.Refusal.{Refusal}
use Rattle.ground.specs.declared.refusal.Refusal.TheVariants.{BadState, TapeTooLong}
use Rattle.ground.specs.Refusals.{number, Keeps}
use Rattle.ground.proofs.Laws.Choice.{cond-elim, or-none}
use Rattle.link_spec.specs.Receiving.{bad_receiver}
use Rattle.tape_spec.specs.declared.tape.Line.{Line}
use Rattle.tape_spec.specs.declared.tape.Line.TheVariants.{Point, Addressed}
use Rattle.tape_spec.specs.Limits.{most_records}
use Rattle.tape_spec.specs.Whole.{Record, receiver_on}
use Rattle.tape_spec.specs.Frames.{bytes_on}
use Rattle.tape_spec.specs.Taping.{tape_of, is_over, awaits_body, bad_receivers, bad_tape, ending}
use Rattle.tape_spec.proofs.Laws.Fine.{on_fine, receivers-fine, tape-fine}
use Rattle.totals_spec.specs.declared.totals.Totals.{Totals}
use Rattle.totals_spec.specs.declared.totals.Report.{Report}
use Rattle.totals_spec.specs.Whole.{Reported, ranked, line_report, no_report, is_full}
use Rattle.totals_spec.specs.Adding.{fresh_totals, Account, totals_of, after_bytes, Chunk, chunk_of, sums_at, account_at, totals_after, bad_sums, bad_totals, AddedOut, added, reported_by, reported}
use Rattle.totals_spec.proofs.Laws.Chunks.{chunk-over, chunk-append, chunk-few}
use Rattle.totals_spec.proofs.Laws.Counting.{after-append, bytes-append, bytes-few, after-good, SumsWithin, sums-within, within-fine, within_more, after-within}

-- ---- cuts

-- nothing further is read
pub totals-over : (t : Totals) (l : List ℕ) → is_over t.tape.next ≡ true → totals_after t l ≡ t
unfolding totals_after bytes_on after_bytes
totals-over t l over =
    rw (chunk-over l t.tape.records t.tape.next over)
    (ap (λ (n : ℕ). record { tape = tape_of n t.tape.next t.tape.receivers; point = t.point; addressed = t.addressed }) (add-zero t.tape.records))

pub totals-none : (t : Totals) → totals_after t [] ≡ t
unfolding totals_after chunk_of bytes_on after_bytes
totals-none t =
    ap (λ (n : ℕ). record { tape = tape_of n t.tape.next t.tape.receivers; point = t.point; addressed = t.addressed }) (add-zero t.tape.records)

pub totals-append : (t : Totals) (a b : List ℕ) → totals_after t (a ++ b) ≡ totals_after (totals_after t a) b
unfolding totals_after
totals-append t a b =
    let n = t.tape.records in
    let c = chunk_of n t.tape.next a in
    let d = chunk_of (n + length c.records) c.next b in
    let heard : Line → List Record → Account = λ line rs. after_bytes (account_at line t) (bytes_on line rs) in
    let both : (line : Line) → heard line (c.records ++ d.records) ≡ after_bytes (heard line c.records) (bytes_on line d.records) =
    λ line. ap (after_bytes (account_at line t)) (bytes-append line c.records d.records)
    ∙ after-append (bytes_on line c.records) (bytes_on line d.records) (account_at line t) in
    let far : n + length (c.records ++ d.records) ≡ n + length c.records + length d.records =
    omega (arith, length-append c.records d.records) in
    ap (λ (e : Chunk). totals_of (n + length e.records) e.next (heard Point e.records) (heard Addressed e.records))
    (chunk-append a b n t.tape.next)
    ∙ ap₂ (totals_of (n + length (c.records ++ d.records)) d.next) (both Point) (both Addressed)
    ∙ ap (λ (m : ℕ). totals_of m d.next (after_bytes (heard Point c.records) (bytes_on Point d.records))
    (after_bytes (heard Addressed c.records) (bytes_on Addressed d.records))) far

-- ---- totals that no row of the refusal table names

pub record Fine (t : Totals) : Type 0 where
  pub few : t.tape.records ≤ most_records
  pub tape : bad_tape t.tape ≡ false
  pub sums : (line : Line) → SumsWithin t.tape.records (sums_at line t)

each_line : {n : ℕ} (t : Totals) → SumsWithin n t.point → SumsWithin n t.addressed → (line : Line) → SumsWithin n (sums_at line t)
each_line t point addressed Point = point
each_line t point addressed Addressed = addressed

pub fine-is : (t : Totals) → t.tape.records ≤ most_records → bad_totals t ≡ false → Fine t
fine-is t few good =
    let n = t.tape.records in
    let a = or-none (bad_tape t.tape) (bad_sums n t.point || bad_sums n t.addressed) good in
    let b = or-none (bad_sums n t.point) (bad_sums n t.addressed) a.1 in
    record { few = few; tape = a.0; sums = each_line t (sums-within n t.point b.0) (sums-within n t.addressed b.1) }

pub fine-good : {t : Totals} → Fine t → bad_totals t ≡ false
fine-good {t} f =
    rw (f.tape, within-fine t.tape.records t.point (f.sums Point))
    (within-fine t.tape.records t.addressed (f.sums Addressed))

-- the receiver of each line is good
pub on-good : {t : Totals} → Fine t → (line : Line) → bad_receiver (receiver_on line t.tape.receivers) ≡ false
on-good {t} f line = on_fine line t.tape.receivers (receivers-fine t.tape f.tape)

-- before a body the record is permitted
pub permitted : {t : Totals} → Fine t → (awaits_body t.tape.next && eqb t.tape.records most_records) ≡ false
permitted {t} f = (or-none (bad_receivers t.tape.receivers) (awaits_body t.tape.next && eqb t.tape.records most_records) f.tape).1

pub fresh-fine : Fine fresh_totals
fresh-fine = fine-is fresh_totals (omega arith) refl

-- so a session that begins fresh goes on so, whatever the chunks
pub totals-fine : {t : Totals} → Fine t → (chunk : List ℕ) → Fine (totals_after t chunk)
unfolding totals_after
totals-fine {t} f chunk =
    let n = t.tape.records in
    let c = chunk_of n t.tape.next chunk in
    let few = chunk-few chunk n t.tape.next f.few (permitted f) in
    let good : (line : Line) → bad_receiver (after_bytes (account_at line t) (bytes_on line c.records)).receiver ≡ false =
    λ line. after-good (bytes_on line c.records) (account_at line t) (on-good f line) in
    let sums : (line : Line) → SumsWithin (n + length c.records) (after_bytes (account_at line t) (bytes_on line c.records)).sums =
    λ line. within_more (omega (arith, bytes-few line c.records))
    (after-within (bytes_on line c.records) n (account_at line t) (on-good f line) (f.sums line)) in
    record {
      few = few.0;
      tape = tape-fine (n + length c.records) c.next
          (record {
            point = (after_bytes (account_at Point t) (bytes_on Point c.records)).receiver;
            addressed = (after_bytes (account_at Addressed t) (bytes_on Addressed c.records)).receiver;
          })
          (rw (good Point) (good Addressed)) few.1;
      sums = each_line (totals_after t chunk) (sums Point) (sums Addressed);
    }

-- ---- the refusals: when, and only then

module _ (t : Totals) (chunk : List ℕ) where
  pub add-refused : bad_totals t ≡ true → added t chunk ≡ record { refusal = number BadState; totals = t }
  unfolding added
  add-refused bad = rw bad

  pub adds : bad_totals t ≡ false → added t chunk ≡ record { refusal = 0; totals = totals_after t chunk }
  unfolding added
  adds good = rw good

  -- a refused call leaves the totals as before
  pub added-keeps : Keeps (added t chunk).refusal t (added t chunk).totals
  unfolding added
  added-keeps =
      cond-elim (λ (d : AddedOut). Keeps d.refusal t d.totals) (bad_totals t) (λ bad refused. refl) (λ good refused. absurd (refused refl))

module _ (t : Totals) where
  pub report-bad : bad_totals t ≡ true → reported t ≡ no_report BadState
  unfolding reported
  report-bad bad = rw bad

  pub report-long : bad_totals t ≡ false → is_full (ending t.tape.next) ≡ true → reported t ≡ no_report TapeTooLong
  unfolding reported
  report-long good full = rw (good, full)

  pub reports : bad_totals t ≡ false → is_full (ending t.tape.next) ≡ false
      → reported t ≡ ranked t.point t.addressed (ending t.tape.next) t.tape.records
  unfolding reported
  reports good short = rw (good, short)

-- every report has a result
pub reported-answers : (t : Totals) → (r : Result Report Refusal) × (reported_by r ≡ reported t)
unfolding reported ranked
reported-answers t =
    let e = ending t.tape.next in
    let p = line_report Point t.point in
    let a = line_report Addressed t.addressed in
    let n = t.tape.records in
    let Answers : Reported → Type 0 = λ d. (r : Result Report Refusal) × (reported_by r ≡ d) in
    cond-elim Answers (bad_totals t) (λ bad. (Err BadState, refl))
    (λ good. cond-elim Answers (is_full e) (λ full. (Err TapeTooLong, refl))
    (λ short. cond-elim Answers (ltb t.point.heard t.addressed.heard)
    (λ louder. (Ok (record { first = a; second = p; ending = e; records = n }), refl))
    (λ other. (Ok (record { first = p; second = a; ending = e; records = n }), refl))))
