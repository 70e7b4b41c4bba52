-- `decimal::lay_digits`: at each turn, the digits of what is left, and after them those that stand in the text, are those asked for.
-- Assumes nothing.
use mathlib.Core.Path.{◌≡◌}
use mathlib.Core.List.{◌++◌}
use lib.ListN.{length, drop}
use Rattle.text.specs.Decimal.{most_digits, spelled, decimal}
use Rattle.text.proofs.decimal.lay_digits.Given as goal

abbrev pub invariant-loop-from : goal.invariant-loop-from
invariant-loop-from l =
    (length l.text ≡ most_digits) × (spelled l.from l.left ++ drop l.from l.text ≡ decimal l.n)
