-- A choice, and two tests in one, taken apart; a number between two limits; and what cannot be.
-- Assumes nothing.
use mathlib.Core.Path.{◌≡◌, refl}
use mathlib.Core.Bool.{Bool, true, false, cond, ◌&&◌, ◌||◌, true≢false, and-eq-true_iff}
use Prim.Native.Nat.{ℕ, ◌≤◌}
use native.Mathlib.Omega.{arith}
use lib.Dec.{leb}
use borrow.Author.Tests.{leb-true, le-leb}

-- what holds of the first where the test is true, and of the second where it is false, holds of the choice
pub cond-elim : {A : Type 0} (P : A → Type 0) (t : Bool) {x y : A} → (t ≡ true → P x) → (t ≡ false → P y) → P (cond t x y)
cond-elim P true f g = f refl
cond-elim P false f g = g refl

-- what holds of both answers, where the test gives them, holds of the test
pub by-test : (P : Bool → Type 0) (t : Bool) → (t ≡ true → P true) → (t ≡ false → P false) → P t
by-test P true f g = f refl
by-test P false f g = g refl

-- what follows from either of two tests follows where one of them is true
pub or_elim : {P : Type 0} (s t : Bool) → (s ≡ true → P) → (t ≡ true → P) → (s || t) ≡ true → P
or_elim true t f g e = f refl
or_elim false t f g e = g e

pub or-none : (s t : Bool) → (s || t) ≡ false → (s ≡ false) × (t ≡ false)
or-none true t e = absurd (true≢false e)
or-none false t e = (refl, e)

-- a number from one limit to another, as two tests say it
pub between-true : (low high n : ℕ) → (leb low n && leb n high) ≡ true → (low ≤ n) × (n ≤ high)
between-true low high n both =
    let (least, most) = (and-eq-true_iff (leb low n) (leb n high)).0 both in
    (leb-true low n least, leb-true n high most)

pub between_is : (low high n : ℕ) → low ≤ n → n ≤ high → (leb low n && leb n high) ≡ true
between_is low high n least most = rw (le-leb low n least, le-leb n high most)

-- two constructors that are equal, as `cc` has it, are no case
pub no-case : {A : Type 0} → ◌≡◌ {A = ℕ} 0 1 → A
no-case e = absurd (omega arith)
