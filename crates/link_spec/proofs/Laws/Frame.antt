-- Laws of the contents of both lines.
-- Assumes nothing.
use mathlib.Core.Path.{◌≡◌, refl}
use mathlib.Core.List.{List, [], ◌∷◌, ◌++◌}
use Prim.Native.Nat.{ℕ, ◌+◌}
use native.Mathlib.Omega.{arith}
use lib.ListN.{length, length-append}
use Rattle.checks.specs.declared.kind.Check.{Check}
use Rattle.checks.specs.declared.kind.Check.TheVariants.{Fcs, Sum}
use Rattle.checks.specs.Fcs.{residue, good_residue}
use Rattle.checks.specs.Check.{check_of, check_length, with_check}
use Rattle.checks.proofs.Laws.Fcs.{good-residue}
use Rattle.checks.proofs.Laws.Check.{length-with_check}
use Rattle.link_spec.specs.Limits.{least_content}
use Rattle.link_spec.specs.Frame.{point_content, addressed_content}

pub point-residue : (identifier command : ℕ) («data» : List ℕ) → residue (point_content identifier command «data») ≡ good_residue
unfolding check_of with_check point_content
point-residue identifier command «data» = good-residue (identifier ∷ command ∷ «data»)

-- a frame with no data has the least content
length-content : (check : Check) (head «data» : List ℕ) → length head + check_length check ≡ least_content
    → length (with_check check (head ++ «data»)) ≡ least_content + length «data»
length-content check head «data» least = omega (arith, length-with_check check (head ++ «data»), length-append head «data»)

pub length-point : (identifier command : ℕ) («data» : List ℕ)
    → length (point_content identifier command «data») ≡ least_content + length «data»
unfolding point_content
length-point identifier command «data» = length-content Fcs (identifier ∷ command ∷ []) «data» refl

pub length-addressed : (address identifier command : ℕ) («data» : List ℕ)
    → length (addressed_content address identifier command «data») ≡ least_content + length «data»
unfolding addressed_content
length-addressed address identifier command «data» = length-content Sum (address ∷ identifier ∷ command ∷ []) «data» refl
