-- Every notice has room in its places, and fills them, so that it covers each one before it.
-- Assumes nothing.
use mathlib.Core.Path.{◌≡◌}
use Prim.Native.Nat.{ℕ, ◌+◌, ◌≤◌}
use native.Mathlib.Omega.{arith}
use lib.ListN.{length, length-append, length-drop}
use Rattle.text.specs.Ascii.{ascii}
use Rattle.text.proofs.Laws.Decimal.{length_digits}
use Rattle.progress.specs.Notice.{words, places, notice, blanks}

pub words-within : (read : ℕ) → length (words read) ≤ places
unfolding words ascii
words-within read = let d = length_digits read in simp length-append (omega arith)

-- a carriage return and all places
pub length-notice : (read : ℕ) → length (notice read) ≡ 1 + places
unfolding notice
length-notice read = let h = words-within read in simp (length-append, length-drop) (omega arith)

-- and one more to get back
pub length-blanks : length blanks ≡ 2 + places
length-blanks = omega arith
