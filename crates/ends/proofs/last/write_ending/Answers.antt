-- `last::write_ending`: the row is put together in an array that holds the longest, where no part of it is refused, and then put.
-- Assumes nothing.
use mathlib.Core.Path.{◌≡◌, sym, ap, subst⁻¹, ◌∙◌}
use mathlib.Core.List.{List, ◌++◌}
use Prim.Native.Nat.{ℕ, ◌≤◌, zero-le}
use native.Mathlib.Omega.{arith}
use lib.ListN.{length, take, replicate, length-append}
use lib.Seq.{length-take-le}
use Rattle.ground.specs.Laying.{Ended, put}
use Rattle.ground.proofs.Laws.Laying.{length-laid, last, then, puts-placed, puts-some, take-placed}
use Rattle.text.specs.Ascii.{ascii}
use Rattle.text.specs.Decimal.{decimal}
use Rattle.tape_spec.specs.declared.tape.Ending.{Ending}
use Rattle.tape_spec.specs.Limits.{most_last, most_records}
use Rattle.tape_spec.specs.Rows.{word, last_row}
use Rattle.tape_spec.proofs.Laws.Rows.{last_within}
use Rattle.ends.proofs.last.write_ending.Goals as goal
use Rattle.ends.proofs.last.write_ending.Goals.{In_ok-length}

-- the word and the number have room, since the whole row has
parts-within : (e : Ending) (n : ℕ) → n ≤ most_records
    → (length (word e) ≤ most_last) × (length (word e ++ decimal n) ≤ most_last) × (length (last_row e n) ≤ most_last)
unfolding last_row
parts-within e n few =
    let row = last_within e n few in
    let w = length-append (word e) (decimal n ++ ascii "\n") in
    let d = length-append (decimal n) (ascii "\n") in
    (omega (arith, row, w), omega (arith, row, w, d, length-append (word e) (decimal n)), row)

-- no part of it is refused
pub returns-in_err-said : goal.returns-in_err-said
returns-in_err-said c =
    let fits = parts-within c.args.ending c.args.records (omega (arith, c.ranges)) in
    absurd (puts-some c.in_err-said.field-0.0 (last (rw c.word.ensures at c.in_err-said.ensures)) zero-le fits.0)

pub returns-in_err-counted : goal.returns-in_err-counted
returns-in_err-counted c =
    let fits = parts-within c.args.ending c.args.records (omega (arith, c.ranges)) in
    absurd (puts-some c.in_err-counted.field-0.0 (then _ _ (rw c.word.ensures at c.in_ok-said.ensures) (last c.in_err-counted.ensures)) zero-le
    fits.1)

pub returns-in_err-length : goal.returns-in_err-length
unfolding ascii last_row
returns-in_err-length c =
    let fits = parts-within c.args.ending c.args.records (omega (arith, c.ranges)) in
    absurd (puts-some c.in_err-length.field-0.0
    (then _ _ (rw c.word.ensures at c.in_ok-said.ensures) (then _ _ c.in_ok-counted.ensures (last c.in_err-length.ensures))) zero-le fits.2)

-- the row was put to the front of its places, part after part, and stands there
stands : (c : In_ok-length) → (c.in_ok-length.length ≤ length c.put-2.new.out)
    × (take c.in_ok-length.length c.put-2.new.out ≡ last_row c.args.ending c.args.records)
unfolding ascii last_row
stands c =
    let row = last_row c.args.ending c.args.records in
    let fits = (parts-within c.args.ending c.args.records (omega (arith, c.ranges))).2 in
    let lies =
    puts-placed (then _ _ (rw c.word.ensures at c.in_ok-said.ensures) (then _ _ c.in_ok-counted.ensures (last c.in_ok-length.ensures))) zero-le
    fits in
    subst⁻¹ (λ (d : Ended). (d.end ≤ length d.out) × (take d.end d.out ≡ row)) lies
    (omega (arith, length-laid (replicate most_last 0) 0 row (omega (arith, fits)), fits), take-placed row (replicate most_last 0))

pub slice_bounds-row-end : goal.slice_bounds-row-end
slice_bounds-row-end c = (stands c).0

pub slice_bounds-put-end-4 : goal.slice_bounds-put-end-4
slice_bounds-put-end-4 c = sym (length-take-le _ _ (stands (goal.at.slice_bounds-put-end-4 c).In_ok-length).0)

pub returns : goal.returns
returns c = c.put-3.ensures ∙ ap (λ (l : List ℕ). put l c.args.out.now 0) (stands (goal.at.returns c).In_ok-length).1
