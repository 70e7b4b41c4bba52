-- The text of a number less another, by which of them is greater.
-- Assumes nothing.
use mathlib.Core.Path.{◌≡◌, refl, ap, ◌∙◌}
use mathlib.Core.List.{◌∷◌}
use Prim.Native.Nat.{ℕ, zero, suc, ◌+◌, ◌-◌, ◌≤◌, ◌<◌}
use native.Mathlib.Omega.{arith}
use borrow.Author.Tests.{lt-ltb, le-ltb}
use lib.IntN.{pos, negsuc, sub_ℕ, ◌-ℤ◌}
use Rattle.text.specs.Decimal.{decimal, signed}

less-is : (a b : ℕ) → pos a -ℤ pos b ≡ sub_ℕ a b
less-is a zero = let e : a + 0 ≡ a - 0 = omega arith in rw (le-ltb a 0 (omega arith)) (ap pos e)
less-is a (suc b) = refl

pub less-above : (a b : ℕ) → b ≤ a → pos a -ℤ pos b ≡ pos (a - b)
less-above a b h = less-is a b ∙ rw (le-ltb a b h)

pub less-below : (a b : ℕ) → a < b → pos a -ℤ pos b ≡ negsuc (b - suc a)
less-below a b h = less-is a b ∙ rw (lt-ltb a b h)

pub signed_above : (a b : ℕ) → b ≤ a → signed (pos a -ℤ pos b) ≡ decimal (a - b)
signed_above a b h = ap signed (less-above a b h)

pub signed_below : (a b : ℕ) → a < b → signed (pos a -ℤ pos b) ≡ 0x2D ∷ decimal (b - a)
signed_below a b h =
    let e : b - suc a + 1 ≡ b - a = omega arith in
    ap signed (less-below a b h) ∙ ap (λ (n : ℕ). 0x2D ∷ decimal n) e
