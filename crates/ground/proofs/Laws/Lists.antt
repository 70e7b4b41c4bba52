-- What is left of a list after a place: read byte by byte, from a later place on, after a byte that was put there, and to its end.
-- Assumes nothing.
use mathlib.Core.Path.{◌≡◌, sym, ap, ◌∙◌}
use mathlib.Core.List.{List, [], ◌∷◌}
use Prim.Native.Nat.{ℕ, suc, ◌+◌, ◌-◌, ◌≤◌, ◌<◌}
use native.Mathlib.Numerals.{add-one}
use native.Mathlib.Omega.{arith}
use lib.ListN.{length, get_or, take, drop, set, length-drop}
use lib.Seq.{drop-cons, drop-drop, drop_at, take_all, length-take-le, set_split}

-- what is left begins with the next byte
pub drop-next : (s : List ℕ) (i : ℕ) → i < length s → drop i s ≡ get_or s i 0 ∷ drop (i + 1) s
drop-next s i h = rw (add-one, drop-cons s i 0)

-- what is left some places further on
pub drop-on : (s : List ℕ) (i n : ℕ) {l : List ℕ} → drop i s ≡ l → drop (i + n) s ≡ drop n l
drop-on s i n left = sym (drop-drop n i s) ∙ ap (drop n) left

-- a byte put before what stands after it
pub drop-set : (l : List ℕ) (k d : ℕ) → k < length l → drop k (set l k d) ≡ d ∷ drop (suc k) l
drop-set l k d h = ap (drop k) (set_split l k d h) ∙ drop_at (take k l) (d ∷ drop (suc k) l) k (length-take-le k l (omega arith))

pub take_rest : (l : List ℕ) (k : ℕ) → take (length l - k) (drop k l) ≡ drop k l
take_rest l k = take_all (length l - k) (drop k l) (simp length-drop (omega arith))

-- where nothing is left, the place is at the end or after it
pub drop-none : (l : List ℕ) (k : ℕ) → drop k l ≡ [] → length l ≤ k
drop-none l k none = omega (arith, length-drop k l, ap length none)
