-- The check at the end of a content, on each line, and when it is right.
-- 01, Layout of a frame, the table, 'FCS' and 'Sum'. Assumes nothing.
use Rattle.std.specs.Prelude.{ℕ, ◌-◌, Bool, true, false, ◌&&◌, List, [], ◌∷◌, ◌++◌, eqb, length, take, drop}
use Rattle.checks.specs.declared.kind.Check.{Check}
use Rattle.checks.specs.declared.kind.Check.TheVariants.{Fcs, Sum}
use Rattle.checks.specs.Fcs.{fcs_bytes}
use Rattle.checks.specs.Sum.{sum}

-- the check over all content before it: on the point line the FCS, low byte first, on the addressed line the sum
unfoldable pub check_of : Check → List ℕ → List ℕ
check_of Fcs front = fcs_bytes front
check_of Sum front = sum front ∷ []

-- how many bytes it is
abbrev pub check_length : Check → ℕ
check_length Fcs = 2
check_length Sum = 1

-- a front with its check after it
unfoldable pub with_check : Check → List ℕ → List ℕ
with_check check front = front ++ check_of check front

-- what stands before the check, and the check that came
unfoldable pub front : Check → List ℕ → List ℕ
front check content = take (length content - check_length check) content

unfoldable pub came : Check → List ℕ → List ℕ
came check content = drop (length content - check_length check) content

-- byte for byte the same
unfoldable pub alike : List ℕ → List ℕ → Bool
alike [] [] = true
alike [] (b ∷ s) = false
alike (a ∷ r) [] = false
alike (a ∷ r) (b ∷ s) = eqb a b && alike r s

-- the check that came is the check of what stands before it
unfoldable pub is_right : Check → List ℕ → Bool
is_right check content = alike (came check content) (check_of check (front check content))
