-- `row::write_sums`: at each turn, what was put and what is left are the row.
-- Assumes nothing.
use mathlib.Core.Path.{◌≡◌}
use mathlib.Core.List.{List, [], ◌∷◌, ◌++◌}
use Prim.Native.Nat.{ℕ}
use lib.IntN.{pos, ◌-ℤ◌}
use lib.ListN.{length, drop, replicate}
use Rattle.ground.specs.Laying.{laid}
use Rattle.text.specs.Ascii.{ascii}
use Rattle.text.specs.Decimal.{decimal, signed}
use Rattle.totals_spec.specs.declared.totals.Sums.{Sums}
use Rattle.totals_spec.specs.Rows.{field, sums_row, most_row}
use Rattle.report_rows.proofs.row.write_sums.Given as goal

-- numbers, each after a blank
abbrev pub fields : List ℕ → List ℕ
fields [] = []
fields (n ∷ ns) = field (decimal n) ++ fields ns

-- what stands after the four sums
abbrev pub after_sums : Sums → List ℕ
after_sums s = field (signed (pos s.reserved -ℤ pos s.heard)) ++ ascii "\n"

-- the front of a row, up to what is left of it, was put to the front of the row's places
pub record Begun (row left : List ℕ) (end : ℕ) (places : List ℕ) : Type 0 where
  pub front : List ℕ
  pub whole : front ++ left ≡ row
  pub ends : end ≡ length front
  pub lies : places ≡ laid (replicate most_row 0) 0 front

abbrev pub invariant-loop-number : goal.invariant-loop-number
invariant-loop-number l =
    Begun (sums_row l.fn.line l.fn.sums) (fields (drop l.number-index l.number-items) ++ after_sums l.fn.sums) l.end l.row
