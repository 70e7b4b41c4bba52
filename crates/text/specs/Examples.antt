-- Numbers and bytes with the text that stands for them, as rows of one table. The claim is that each holds; `proofs/Laws/Examples` proves
-- it. 01, The listing program, the largest numbers of 32 and 64 bits, and numbers below zero. Assumes nothing.
use Rattle.std.specs.Prelude.{ℕ, ◌≡◌, List, [], ◌∷◌, pos, ◌-ℤ◌}
use Prim.Native.String.{String}
use Rattle.text.specs.Ascii.{ascii}
use Rattle.text.specs.Decimal.{decimal, signed}
use Rattle.text.specs.Hex.{pairs}

pub data Example : Type 0 where
  number : (n : ℕ) (printed : String) → Example
  -- a number less another
  less : (a b : ℕ) (printed : String) → Example
  bytes : (l : List ℕ) (printed : String) → Example

abbrev pub Holds : Example → Type 0
Holds (number n printed) = decimal n ≡ ascii printed
Holds (less a b printed) = signed (pos a -ℤ pos b) ≡ ascii printed
Holds (bytes l printed) = pairs l ≡ ascii printed

abbrev pub examples : List Example
examples =
    number 0 "0"
    ∷ number 5 "5"
    ∷ number 12 "12"
    ∷ number 100 "100"
    ∷ number 0xFFFFFFFF "4294967295"
    ∷ number 0xFFFFFFFFFFFFFFFF "18446744073709551615"
    ∷ less 12 7 "5"
    ∷ less 7 7 "0"
    ∷ less 0 1 "-1"
    ∷ less 10 4294967295 "-4294967285"
    ∷ less 0 0xFFFFFFFFFFFFFFFF "-18446744073709551615"
    ∷ bytes [] "-"
    ∷ bytes (0x00 ∷ []) "00"
    ∷ bytes (0x9A ∷ []) "9A"
    ∷ bytes (0x00 ∷ 0x01 ∷ 0x2A ∷ 0x55 ∷ []) "00.01.2A.55"
    ∷ bytes (0xAF ∷ 0xFF ∷ []) "AF.FF"
    ∷ []
