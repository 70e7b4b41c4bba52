-- `row::write_sums`: the row is put together in an array that holds the longest, where no part of it is refused, and then put.
-- Assumes nothing.
use mathlib.Core.Path.{◌≡◌, refl, sym, ap, ap₂, subst, ◌∙◌}
use mathlib.Core.List.{List, [], ◌∷◌, ◌++◌, append_assoc, append-nil}
use Prim.Native.Nat.{ℕ, ◌+◌, ◌≤◌, ◌<◌}
use native.Mathlib.Omega.{arith}
use lib.IntN.{pos, ◌-ℤ◌}
use lib.ListN.{length, take, drop, get_or, replicate, length-append, drop_of_length-le}
use lib.Seq.{length-take-le}
use Rattle.ground.specs.Laying.{Ended, laid, put}
use Rattle.ground.proofs.Laws.Lists.{drop-next}
use Rattle.ground.proofs.Laws.Laying.{laid_nil, length-laid, take-front, laid-after, put-placed}
use Rattle.ground.proofs.Laws.Refusals.{number-some}
use Rattle.text.specs.Ascii.{ascii}
use Rattle.text.specs.Decimal.{decimal, signed}
use Rattle.tape_spec.specs.declared.tape.Line.{Line}
use Rattle.totals_spec.specs.declared.totals.Sums.{Sums}
use Rattle.totals_spec.specs.Rows.{line_name, field, sums_row, most_row}
use Rattle.totals_spec.proofs.Laws.Rows.{row_within}
use Rattle.report_rows.proofs.row.write_sums.Invariants.{fields, after_sums, Begun}
use Rattle.report_rows.proofs.row.write_sums.Goals as goal
use Rattle.report_rows.proofs.row.write_sums.Goals.{In_ok-length}

-- ---- a row that has room in its places

-- its next part is not refused
part-placed : {row places : List ℕ} {end : ℕ} (bytes left : List ℕ) → length row ≤ most_row → Begun row (bytes ++ left) end places
    → {e : Ended} → e ≡ put bytes places end
    → (e.refusal ≡ 0) × Begun row left e.end e.out
part-placed {places = places} {end = end} bytes left fits begun {e} says =
    let front = begun.front in
    let whole : length front + length bytes ≤ most_row =
    omega (arith, ap length begun.whole, length-append front (bytes ++ left), length-append bytes left) in
    let room : length places ≡ most_row = ap length begun.lies ∙ length-laid (replicate most_row 0) 0 front (omega arith) in
    let is = says ∙ put-placed bytes places end (omega (arith, begun.ends)) in (
      ap (λ (d : Ended). d.refusal) is,
      record {
        front = front ++ bytes;
        whole = append_assoc front bytes left ∙ begun.whole;
        ends = ap (λ (d : Ended). d.end) is ∙ omega (arith, begun.ends, length-append front bytes);
        lies =
            ap (λ (d : Ended). d.out) is
            ∙ ap₂ (λ (l : List ℕ) (at : ℕ). laid l at bytes) begun.lies begun.ends
            ∙ laid-after (replicate most_row 0) front bytes;
      },
    )

-- where nothing is left of it, it stands there
row-stands : {row places : List ℕ} {end : ℕ} → length row ≤ most_row → Begun row [] end places → (end ≤ length places) × (take end places ≡ row)
row-stands {row} {places} fits begun =
    let zeros : List ℕ = replicate most_row 0 in
    let is : begun.front ≡ row = sym (append-nil begun.front) ∙ begun.whole in
    let room : length places ≡ most_row = ap length begun.lies ∙ length-laid zeros 0 begun.front (omega (arith, ap length is)) in (
      omega (arith, begun.ends, ap length is),
      ap₂ take begun.ends begun.lies ∙ take-front zeros begun.front ∙ is,
    )

-- ---- the row of a line

begun-row : (line : Line) (s : Sums)
    → Begun (sums_row line s) (line_name line ++ (fields (s.frames ∷ s.heard ∷ s.inside ∷ s.reserved ∷ []) ++ after_sums s)) 0 (replicate most_row 0)
unfolding sums_row
begun-row line s = record { front = []; whole = simp append_assoc; ends = refl; lies = sym (laid_nil (replicate most_row 0) 0) }

module _ (line : Line) (s : Sums) where
  abbrev numbers : List ℕ
  numbers = s.frames ∷ s.heard ∷ s.inside ∷ s.reserved ∷ []

  abbrev BegunTo : List ℕ → ℕ → List ℕ → Type 0
  BegunTo left end places = Begun (sums_row line s) left end places

  -- the next part of the row is not refused
  next-placed : {places : List ℕ} {end : ℕ} (bytes left : List ℕ) → BegunTo (bytes ++ left) end places → {e : Ended} → e ≡ put bytes places end
      → (e.refusal ≡ 0) × BegunTo left e.end e.out
  next-placed bytes left = part-placed bytes left (row_within line s)

  start : BegunTo (line_name line ++ (fields numbers ++ after_sums s)) 0 (replicate most_row 0)
  unfolding sums_row
  start = record { front = []; whole = simp append_assoc; ends = refl; lies = sym (laid_nil (replicate most_row 0) 0) }

  module _ {i end : ℕ} {places : List ℕ} (begun : BegunTo (fields (drop i numbers) ++ after_sums s) end places) where
    -- the next number
    number-next : i < length numbers
        → BegunTo (field (decimal (get_or numbers i 0)) ++ (fields (drop (i + 1) numbers) ++ after_sums s)) end places
    number-next more =
        subst (λ (l : List ℕ). BegunTo l end places)
        (ap (λ (l : List ℕ). fields l ++ after_sums s) (drop-next numbers i more)
        ∙ append_assoc (field (decimal (get_or numbers i 0))) (fields (drop (i + 1) numbers)) (after_sums s)) begun

    -- after all of them
    module _ (none : length numbers ≤ i) where
      numbers-placed : BegunTo (after_sums s) end places
      numbers-placed =
          subst (λ (l : List ℕ). BegunTo (fields l ++ after_sums s) end places) (drop_of_length-le numbers none) begun

      module _ {apart : ℕ} {o : List ℕ} (blank : record { refusal = 0; end = apart; out = o } ≡ put (0x20 ∷ []) places end) where
        blank-placed : BegunTo (signed (pos s.reserved -ℤ pos s.heard) ++ ascii "\n") apart o
        blank-placed = (next-placed (0x20 ∷ []) _ numbers-placed blank).1

        difference-placed : {differed : ℕ} {p : List ℕ}
            → record { refusal = 0; end = differed; out = p } ≡ put (signed (pos s.reserved -ℤ pos s.heard)) o apart
            → BegunTo (ascii "\n") differed p
        difference-placed digits = (next-placed (signed (pos s.reserved -ℤ pos s.heard)) _ blank-placed digits).1

-- ---- the goals

pub returns-in_err-end : goal.returns-in_err-end
returns-in_err-end c =
    let line = c.args.line in
    let s = c.args.sums in
    absurd (number-some _ (next-placed line s (line_name line) _ (start line s) (rw c.name.ensures at c.in_err-end.ensures)).0)

pub loop-number-init : goal.loop-number-init
loop-number-init c =
    let line = c.args.line in
    let s = c.args.sums in
    (next-placed line s (line_name line) _ (start line s) (rw c.name.ensures at c.in_ok-end.ensures)).1

pub returns-in_err-end-2 : goal.returns-in_err-end-2
returns-in_err-end-2 c =
    let line = c.args.line in
    let s = c.args.sums in
    absurd (number-some _ (next-placed line s _ _ (number-next line s c.loop-number.invariant c.loop-number-test.true)
    c.in_err-end-2.ensures).0)

pub loop-number-preserved : goal.loop-number-preserved
loop-number-preserved c =
    let line = c.args.line in
    let s = c.args.sums in
    (next-placed line s _ _ (number-next line s c.loop-number.invariant c.loop-number-test.true) c.in_ok-end-2.ensures).1

pub returns-in_err-apart : goal.returns-in_err-apart
returns-in_err-apart c =
    let line = c.args.line in
    let s = c.args.sums in
    absurd (number-some _ (next-placed line s (0x20 ∷ []) _ (numbers-placed line s c.loop-number.invariant c.loop-number-test.false)
    c.in_err-apart.ensures).0)

pub returns-in_err-differed : goal.returns-in_err-differed
returns-in_err-differed c =
    let line = c.args.line in
    let s = c.args.sums in
    absurd (number-some _ (next-placed line s (signed (pos s.reserved -ℤ pos s.heard)) _
    (blank-placed line s c.loop-number.invariant c.loop-number-test.false c.in_ok-apart.ensures) c.in_err-differed.ensures).0)

pub returns-in_err-length : goal.returns-in_err-length
unfolding ascii
returns-in_err-length c =
    let line = c.args.line in
    let s = c.args.sums in
    absurd (number-some _ (next-placed line s (0x0A ∷ []) []
    (difference-placed line s c.loop-number.invariant c.loop-number-test.false c.in_ok-apart.ensures c.in_ok-differed.ensures) c.in_err-length.ensures).0)

-- the whole row
stands : (c : In_ok-length) → (c.in_ok-length.length ≤ length c.put-3.new.out)
    × (take c.in_ok-length.length c.put-3.new.out ≡ sums_row c.args.line c.args.sums)
unfolding ascii
stands c =
    let line = c.args.line in
    let s = c.args.sums in
    row-stands (row_within line s) (next-placed line s (0x0A ∷ []) []
    (difference-placed line s c.loop-number.invariant c.loop-number-test.false c.in_ok-apart.ensures c.in_ok-differed.ensures) c.in_ok-length.ensures).1

pub slice_bounds-row-end : goal.slice_bounds-row-end
slice_bounds-row-end c = (stands c).0

pub slice_bounds-put-end-6 : goal.slice_bounds-put-end-6
slice_bounds-put-end-6 c = sym (length-take-le _ _ (stands (goal.at.slice_bounds-put-end-6 c).In_ok-length).0)

pub returns : goal.returns
returns c = c.put-4.ensures ∙ ap (λ (l : List ℕ). put l c.args.out.now 0) (stands (goal.at.returns c).In_ok-length).1
