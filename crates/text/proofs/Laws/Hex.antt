-- Hex pairs: how long they are, and how they are laid one by one.
-- Assumes nothing.
use mathlib.Core.Path.{◌≡◌, refl, ap, ◌∙◌}
use mathlib.Core.List.{List, [], ◌∷◌}
use Prim.Native.Nat.{ℕ, ◌+◌, ◌*◌, ◌-◌, ◌≤◌, ◌<◌}
use native.Mathlib.Omega.{arith}
use lib.ListN.{length, get_or, set, drop}
use Rattle.ground.specs.Laying.{laid}
use Rattle.ground.proofs.Laws.Laying.{laid_next, laid_more}
use Rattle.text.specs.Hex.{dash, dot, pair, further, pairs}

length-further : (l : List ℕ) → length (further l) ≡ 3 * length l
unfolding further
length-further [] = refl
length-further (b ∷ bs) = let h : length (further bs) ≡ 3 * length bs = length-further bs in omega arith

pub pairs-none : (l : List ℕ) → length l ≡ 0 → pairs l ≡ dash ∷ []
unfolding pairs
pairs-none [] e = refl
pairs-none (b ∷ bs) e = absurd (omega arith)

-- two places for each pair and one between two
pub length_pairs : (l : List ℕ) → 0 < length l → length (pairs l) ≡ 3 * length l - 1
unfolding pairs
length_pairs [] h = omega arith
length_pairs (b ∷ bs) h = let e : length (further bs) ≡ 3 * length bs = length-further bs in omega arith

-- three places for each are enough, but for none
pub pairs-within : (l : List ℕ) (most : ℕ) → 0 < most → length l ≤ most → length (pairs l) ≤ 3 * most - 1
unfolding pairs
pairs-within [] most some h = omega arith
pairs-within (b ∷ bs) most some h = let e : length (further bs) ≡ 3 * length bs = length-further bs in omega arith

-- ---- pairs laid one by one

-- a dot, a pair and what is further
pub laid-further : (l : List ℕ) (end b : ℕ) (bs : List ℕ) → end < length l
    → laid (laid (set l end dot) (end + 1) (pair b)) (end + 3) (further bs) ≡ laid l end (further (b ∷ bs))
unfolding further
laid-further l end b bs h =
    ap (λ (k : List ℕ). laid k (end + 3) (further bs)) (laid_next l end dot (pair b) h)
    ∙ laid_more l end (dot ∷ pair b) (further bs) (omega arith)

-- the first pair and what is further
pub laid-pairs : (l : List ℕ) (at : ℕ) (bytes : List ℕ) → at ≤ length l → 0 < length bytes
    → laid (laid l at (pair (get_or bytes 0 0))) (at + 2) (further (drop 1 bytes)) ≡ laid l at (pairs bytes)
unfolding pairs
laid-pairs l at [] h some = absurd (omega arith)
laid-pairs l at (b ∷ bs) h some = laid_more l at (pair b) (further bs) h
