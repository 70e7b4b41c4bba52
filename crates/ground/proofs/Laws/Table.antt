-- A table worked out beforehand: one test, which antt computes over the whole table, and from it the rule at each entry.
-- Assumes nothing.
use mathlib.Core.Path.{◌≡◌, ap, ◌∙◌}
use mathlib.Core.Bool.{Bool, true, ◌&&◌, and-eq-true_iff}
use mathlib.Core.List.{List, [], ◌∷◌}
use Prim.Native.Nat.{ℕ, zero, suc, ◌+◌, ◌<◌}
use native.Mathlib.Nat.{zero-add, add-zero, add-suc, suc-add, le_of_suc-le-suc, not-suc-le-zero}
use lib.Dec.{eqb}
use lib.ListN.{length, get_or}
use borrow.Author.Tests.{eqb-true}

-- the table's entries are f i, f (i + 1) and so on
abbrev pub lists : (ℕ → ℕ) → ℕ → List ℕ → Bool
lists f i [] = true
lists f i (x ∷ xs) = eqb x (f i) && lists f (suc i) xs

from : (f : ℕ → ℕ) (i : ℕ) (table : List ℕ) (k : ℕ) → k < length table → lists f i table ≡ true → get_or table k 0 ≡ f (i + k)
from f i [] k h t = absurd (not-suc-le-zero h)
from f i (x ∷ xs) zero h t = rw add-zero (eqb-true x (f i) ((and-eq-true_iff (eqb x (f i)) (lists f (suc i) xs)).0 t).0)
from f i (x ∷ xs) (suc k) h t =
    rw (add-suc, ← suc-add)
    (from f (suc i) xs k (le_of_suc-le-suc h) ((and-eq-true_iff (eqb x (f i)) (lists f (suc i) xs)).0 t).1)

-- the table's rule: its entries are f 0, f 1 and so on
pub record WorkedOut (f : ℕ → ℕ) (table : List ℕ) : Type 0 where
  pub test : lists f 0 table ≡ true

pub entry : (f : ℕ → ℕ) {table : List ℕ} (k : ℕ) → k < length table → WorkedOut f table → get_or table k 0 ≡ f k
entry f {table} k h w = from f 0 table k h w.test ∙ ap f (zero-add k)
