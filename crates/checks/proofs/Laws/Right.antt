-- Laws of a right check: a content whose check is right is what stands before it, with its check.
-- Assumes nothing.
use mathlib.Core.Path.{◌≡◌, refl, sym, ap, ap₂, ◌∙◌}
use mathlib.Core.Bool.{Bool, true, false, ◌&&◌, and-true, and-eq-true_iff, false≢true}
use mathlib.Core.List.{List, [], ◌∷◌, ◌++◌}
use Prim.Native.Nat.{ℕ, ◌+◌, ◌-◌, ◌/◌, ◌%◌, ◌<◌}
use native.Mathlib.Omega.{arith}
use lib.Dec.{eqb}
use lib.Pointwise.{pointwise}
use lib.ListN.{length, take, drop, get_or, take-append-drop, length-drop, drop_of_length-le}
use lib.Seq.{take-append_seam, drop-append_seam, take_at}
use borrow.Author.Tests.{eqb-true, eq-eqb, ne_eqb}
use Rattle.ground.proofs.Laws.Choice.{by-test}
use Rattle.ground.proofs.Laws.Lists.{drop-next}
use Rattle.checks.specs.declared.kind.Check.{Check}
use Rattle.checks.specs.declared.kind.Check.TheVariants.{Fcs, Sum}
use Rattle.checks.specs.Fcs.{fcs, fcs_bytes}
use Rattle.checks.specs.Sum.{sum}
use Rattle.checks.specs.Check.{check_of, check_length, with_check, front, came, alike, is_right}
use Rattle.checks.proofs.Laws.Check.{length-check, length-with_check}

alike_same : (a b : List ℕ) → alike a b ≡ true → a ≡ b
unfolding alike
alike_same [] [] e = refl
alike_same [] (y ∷ b) e = absurd (false≢true e)
alike_same (x ∷ a) [] e = absurd (false≢true e)
alike_same (x ∷ a) (y ∷ b) e =
    let both = (and-eq-true_iff (eqb x y) (alike a b)).0 e in
    rw (eqb-true x y both.0, alike_same a b both.1)

same_alike : (a : List ℕ) → alike a a ≡ true
unfolding alike
same_alike [] = refl
same_alike (x ∷ a) = rw (eq-eqb x x refl, same_alike a)

-- the test that the code makes
pointwise-alike : (a b : List ℕ) → pointwise eqb a b ≡ alike a b
unfolding alike
pointwise-alike [] [] = refl
pointwise-alike [] (y ∷ b) = refl
pointwise-alike (x ∷ a) [] = refl
pointwise-alike (x ∷ a) (y ∷ b) = ap (λ (t : Bool). eqb x y && t) (pointwise-alike a b)

-- a list that is shorter than another is not like it
alike-shorter : (a b : List ℕ) → length a < length b → alike a b ≡ false
alike-shorter a b h =
    by-test (λ (t : Bool). t ≡ false) (alike a b) (λ same. absurd (omega (arith, ap length (alike_same a b same)))) (λ other. refl)

module _ (check : Check) (content : List ℕ) where
  -- what is shorter than its check has none
  pub right-none : length content < check_length check → is_right check content ≡ false
  unfolding came is_right
  right-none h =
      alike-shorter (came check content) (check_of check (front check content))
      (rw (length-drop, length-check check (front check content)) (omega arith))

  -- where the check stands
  right-at : (k : ℕ) → k + check_length check ≡ length content
      → is_right check content ≡ alike (drop k content) (check_of check (take k content))
  unfolding front came is_right
  right-at k e = let h : length content - check_length check ≡ k = omega arith in rw h

  -- so the bytes from there on, compared with the check of those before them, say whether it is right
  pub right-compared : (k : ℕ) {r : Bool} (f g value : List ℕ) → k + check_length check ≡ length content → f ≡ take k content → g ≡ drop k content
      → value ≡ check_of check f → r ≡ pointwise eqb g value → r ≡ is_right check content
  right-compared k f g value e before after is compared =
      compared ∙ pointwise-alike g value ∙ ap₂ alike after (is ∙ ap (check_of check) before) ∙ sym (right-at k e)

  pub right-with_check : is_right check content ≡ true → content ≡ with_check check (front check content)
  unfolding front came is_right with_check
  right-with_check right =
      let k = length content - check_length check in
      sym (take-append-drop k content) ∙ ap (λ (l : List ℕ). take k content ++ l) (alike_same _ _ right)

-- on each line, byte for byte
module _ (content : List ℕ) (k v : ℕ) where
  right-fcs : k + 2 ≡ length content → v ≡ fcs (take k content)
      → eqb (get_or content k 0) (v % 0x100) && eqb (get_or content (k + 1) 0) (v / 0x100) ≡ is_right Fcs content
  unfolding check_of fcs_bytes alike
  right-fcs e is =
      let last : drop (k + 1 + 1) content ≡ [] = drop_of_length-le content {i = k + 1 + 1} (omega arith) in
      sym
      (right-at Fcs content k e
      ∙ rw (drop-next content k (omega arith), drop-next content (k + 1) (omega arith), last, and-true, ← is))

  pub low-wrong : k + 2 ≡ length content → v ≡ fcs (take k content) → (get_or content k 0 ≡ v % 0x100 → ⊥) → false ≡ is_right Fcs content
  low-wrong e is wrong = rw (ne_eqb (get_or content k 0) (v % 0x100) wrong) at (right-fcs e is)

  pub low-right : k + 2 ≡ length content → v ≡ fcs (take k content) → get_or content k 0 ≡ v % 0x100
      → eqb (get_or content (k + 1) 0) (v / 0x100) ≡ is_right Fcs content
  low-right e is right = rw (eq-eqb (get_or content k 0) (v % 0x100) right) at (right-fcs e is)

  pub right-sum : k + 1 ≡ length content → v ≡ sum (take k content) → eqb (get_or content k 0) v ≡ is_right Sum content
  unfolding check_of alike
  right-sum e is =
      let last : drop (k + 1) content ≡ [] = drop_of_length-le content {i = k + 1} (omega arith) in
      sym (right-at Sum content k e ∙ rw (drop-next content k (omega arith), last, and-true, ← is))

module _ (check : Check) (f : List ℕ) where
  -- what stands before the check of a content is that which got it
  pub front-with_check : front check (with_check check f) ≡ f
  unfolding front with_check
  front-with_check =
      take_at f (check_of check f) (length (f ++ check_of check f) - check_length check) (omega (arith, length-with_check check f))

  pub with_check-right : is_right check (with_check check f) ≡ true
  unfolding with_check
  with_check-right =
      right-at check (f ++ check_of check f) (length f) (omega (arith, length-with_check check f))
      ∙ rw (take-append_seam f (check_of check f), drop-append_seam f (check_of check f), same_alike (check_of check f))
