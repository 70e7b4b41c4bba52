-- The decimal digits of a number, in ASCII. 01, The listing program: the numbers in a row; 02, L1: a signed number. Assumes nothing.
use Rattle.std.specs.Prelude.{ℕ, zero, suc, ◌+◌, ◌*◌, ◌-◌, ◌/◌, ◌%◌, cond, List, [], ◌∷◌, ◌++◌, eqb, ℤ, pos, negsuc}

-- 30 to 39
abbrev pub digit : ℕ → ℕ
digit n = 0x30 + n

-- the last digit, after those of the tenth part unless that is zero; at most this many digits
unfoldable pub spelled : ℕ → ℕ → List ℕ
spelled zero n = []
spelled (suc most) n = cond (eqb (n / 10) 0) [] (spelled most (n / 10)) ++ (digit (n % 10) ∷ [])

-- digits that every 64-bit number has room in
abbrev pub most_digits : ℕ
most_digits = 20

abbrev pub decimal : ℕ → List ℕ
decimal n = spelled most_digits n

-- below zero, after a `-`; `negsuc n` is -(n + 1)
abbrev pub signed : ℤ → List ℕ
signed (pos n) = decimal n
signed (negsuc n) = 0x2D ∷ decimal (n + 1)

-- the number that digits stand for, after one that was read before them
unfoldable pub value : ℕ → List ℕ → ℕ
value before [] = before
value before (d ∷ ds) = value (before * 10 + (d - digit 0)) ds
