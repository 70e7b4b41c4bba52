-- The longest row of a report has room in its stated places.
-- Assumes nothing.
use Prim.Native.Nat.{ℕ, ◌+◌, ◌-◌, ◌≤◌}
use mathlib.Core.Path.{◌≡◌, refl, ap}
use native.Mathlib.Decide.{dec_le}
use native.Mathlib.Omega.{arith}
use lib.IntN.{pos, ◌-ℤ◌}
use lib.ListN.{length, length-append}
use Rattle.text.specs.Ascii.{ascii}
use Rattle.text.specs.Decimal.{most_digits, signed}
use Rattle.text.proofs.Laws.Decimal.{length_digits}
use Rattle.text.proofs.Laws.Signed.{signed_above, signed_below}
use Rattle.tape_spec.specs.declared.tape.Line.{Line}
use Rattle.tape_spec.specs.declared.tape.Line.TheVariants.{Point, Addressed}
use Rattle.totals_spec.specs.declared.totals.Sums.{Sums}
use Rattle.totals_spec.specs.Rows.{line_name, sums_row, most_row}

length-name : (line : Line) → length (line_name line) ≡ 1
unfolding line_name ascii
length-name Point = refl
length-name Addressed = refl

length-signed : (a b : ℕ) → length (signed (pos a -ℤ pos b)) ≤ 1 + most_digits
length-signed a b = go (dec_le b a)
  where
    go : Dec (b ≤ a) → length (signed (pos a -ℤ pos b)) ≤ 1 + most_digits
    go (yes le) = omega (arith, ap length (signed_above a b le), length_digits (a - b))
    go (no lt) = omega (arith, ap length (signed_below a b (omega arith)), length_digits (b - a))

pub row_within : (line : Line) (s : Sums) → length (sums_row line s) ≤ most_row
unfolding sums_row ascii
row_within line s =
    let n = length-name line in
    let a = length_digits s.frames in
    let b = length_digits s.heard in
    let c = length_digits s.inside in
    let d = length_digits s.reserved in
    let e = length-signed s.reserved s.heard in
    simp length-append (omega arith)
