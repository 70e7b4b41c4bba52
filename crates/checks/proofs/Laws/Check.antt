-- Laws of a content's length with its check, over both checks.
-- Assumes nothing.
use mathlib.Core.Path.{◌≡◌, refl, ap, ◌∙◌}
use mathlib.Core.List.{List}
use Prim.Native.Nat.{ℕ, ◌+◌, ◌≤◌}
use lib.Dec.{lit≤}
use lib.ListN.{length, length-append}
use Rattle.checks.specs.declared.kind.Check.{Check}
use Rattle.checks.specs.declared.kind.Check.TheVariants.{Fcs, Sum}
use Rattle.checks.specs.Fcs.{fcs_bytes}
use Rattle.checks.specs.Check.{check_of, check_length, with_check}

pub length-check : (check : Check) (front : List ℕ) → length (check_of check front) ≡ check_length check
unfolding check_of fcs_bytes
length-check Fcs front = refl
length-check Sum front = refl

-- no check is longer than the FCS
pub check-most : (check : Check) → check_length check ≤ 2
check-most Fcs = lit≤ tt
check-most Sum = lit≤ tt

pub length-with_check : (check : Check) (front : List ℕ) → length (with_check check front) ≡ length front + check_length check
unfolding with_check
length-with_check check front = length-append front (check_of check front) ∙ ap (λ (n : ℕ). length front + n) (length-check check front)
