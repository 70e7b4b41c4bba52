-- Decimal digits: one more, and the number that they stand for.
-- Assumes nothing.
use mathlib.Core.Path.{◌≡◌, refl, sym, ap, ◌∙◌}
use mathlib.Core.Logic.{◌≢◌}
use mathlib.Core.Bool.{cond}
use mathlib.Core.List.{List, [], ◌∷◌, ◌++◌, append_assoc}
use Prim.Native.Nat.{ℕ, zero, suc, ◌+◌, ◌*◌, ◌-◌, ◌/◌, ◌%◌, ◌≤◌, ◌<◌, zero-le}
use native.Mathlib.Omega.{arith}
use borrow.Author.Tests.{eqb-true, eqb-false, eq-eqb, ne_eqb}
use lib.Dec.{eqb}
use lib.ListN.{length, drop, set, length-append}
use Rattle.ground.proofs.Laws.Choice.{cond-elim}
use Rattle.ground.proofs.Laws.Lists.{drop-set}
use Rattle.text.specs.Decimal.{digit, spelled, most_digits, decimal, value}

-- with one digit more there are as many to come
pub spelled-on : (from n : ℕ) (text : List ℕ) → 0 < from → from ≤ length text → n / 10 ≢ 0
    → spelled (from - 1) (n / 10) ++ drop (from - 1) (set text (from - 1) (digit (n % 10))) ≡ spelled from n ++ drop from text
unfolding spelled
spelled-on zero n text p h more = absurd (omega arith)
spelled-on (suc k) n text p h more =
    let e : suc k - 1 ≡ k = omega arith in
    rw (
      e,
      drop-set text k (digit (n % 10)) (omega arith),
      ne_eqb (n / 10) 0 more,
      append_assoc (spelled k (n / 10)) (digit (n % 10) ∷ [])
          (drop (suc k) text),
    )

-- and with the first of all, none
pub spelled-first : (from n : ℕ) (text : List ℕ) → 0 < from → from ≤ length text → n / 10 ≡ 0
    → drop (from - 1) (set text (from - 1) (digit (n % 10))) ≡ spelled from n ++ drop from text
unfolding spelled
spelled-first zero n text p h last = absurd (omega arith)
spelled-first (suc k) n text p h last =
    let e : suc k - 1 ≡ k = omega arith in
    rw (e, drop-set text k (digit (n % 10)) (omega arith), eq-eqb (n / 10) 0 last)

-- where there is no room for more, none
pub spelled_none : (from n : ℕ) (text : List ℕ) → from ≡ 0 → drop from text ≡ spelled from n ++ drop from text
unfolding spelled
spelled_none zero n text e = refl
spelled_none (suc k) n text e = absurd (omega arith)

-- ---- the number that digits stand for

value-last : (before : ℕ) (ds : List ℕ) (d : ℕ) → value before (ds ++ (d ∷ [])) ≡ value before ds * 10 + (d - digit 0)
unfolding value
value-last before [] d = refl
value-last before (e ∷ ds) d = value-last (before * 10 + (e - digit 0)) ds d

-- the numbers below this one have at most this many digits
unfoldable tens : ℕ → ℕ
tens zero = 1
tens (suc k) = 10 * tens k

value-spelled : (k n : ℕ) → n < tens k → value 0 (spelled k n) ≡ n
unfolding spelled value tens
value-spelled zero n h = omega arith
value-spelled (suc k) n h =
    value-last 0 (cond (eqb (n / 10) 0) [] (spelled k (n / 10))) (digit (n % 10))
    ∙ ap (λ (v : ℕ). v * 10 + (digit (n % 10) - digit 0))
    (cond-elim (λ (l : List ℕ). value 0 l ≡ n / 10) (eqb (n / 10) 0) (λ e. sym (eqb-true (n / 10) 0 e))
    (λ e. value-spelled k (n / 10) (omega arith)))
    ∙ omega arith

-- a digit fewer for the tenth part
shorter : (k n : ℕ) → n / 10 ≢ 0 → ((d : ℕ) → n / 10 < tens (suc d) → length (spelled k (n / 10)) ≤ suc d)
    → (d : ℕ) → n < tens (suc d) → length (spelled k (n / 10)) + 1 ≤ suc d
unfolding tens
shorter k n more rest zero h = absurd (more (omega arith))
shorter k n more rest (suc d) h = let s = rest d (omega arith) in omega arith

-- a number below such a power has no more digits than that, and one at least
length-spelled : (k n d : ℕ) → n < tens (suc d) → length (spelled k n) ≤ suc d
unfolding spelled
length-spelled zero n d h = zero-le
length-spelled (suc k) n d h =
    rw (length-append (cond (eqb (n / 10) 0) [] (spelled k (n / 10))) (digit (n % 10) ∷ []))
    (cond-elim (λ (l : List ℕ). length l + 1 ≤ suc d) (eqb (n / 10) 0) (λ e. omega arith)
    (λ e. shorter k n (eqb-false (n / 10) 0 e) (length-spelled k (n / 10)) d h))

-- a number of 32 bits has ten digits at most
pub length-decimal : (n : ℕ) → n ≤ 0xFFFFFFFF → length (decimal n) ≤ 10
unfolding tens
length-decimal n h = length-spelled most_digits n 9 (omega arith)

-- and none has more than there is room for
room-spelled : (k n : ℕ) → length (spelled k n) ≤ k
unfolding spelled
room-spelled zero n = zero-le
room-spelled (suc k) n =
    rw (length-append (cond (eqb (n / 10) 0) [] (spelled k (n / 10))) (digit (n % 10) ∷ []))
    (cond-elim (λ (l : List ℕ). length l + 1 ≤ suc k) (eqb (n / 10) 0) (λ e. omega arith)
    (λ e. omega (arith, room-spelled k (n / 10))))

pub length_digits : (n : ℕ) → length (decimal n) ≤ most_digits
length_digits n = room-spelled most_digits n

-- the decimal digits of a 64-bit number stand for it
pub value-decimal : (n : ℕ) → n < 0x10000000000000000 → value 0 (decimal n) ≡ n
unfolding tens
value-decimal n h = value-spelled most_digits n (omega arith)
