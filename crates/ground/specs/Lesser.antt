-- The lesser of two numbers. Assumes nothing.
use Rattle.std.specs.Prelude.{ℕ, ◌≤◌, ◌≡◌, ◌⊎◌}

-- not more than either of two numbers, and one of them
pub record Least (a b r : ℕ) : Type 0 where
  pub first : r ≤ a
  pub second : r ≤ b
  pub one : (r ≡ a) ⊎ (r ≡ b)
