-- Bytes as upper-case hex pairs joined by dots, in ASCII. 01, The listing program; docs/BENCH.md, Script. Assumes nothing.
use Rattle.std.specs.Prelude.{ℕ, ◌+◌, ◌/◌, ◌%◌, cond, List, [], ◌∷◌, ◌++◌, ltb}

-- 30 to 39 and 41 to 46
unfoldable pub digit : ℕ → ℕ
digit n = cond (ltb n 10) (0x30 + n) (0x37 + n)

abbrev pub dash : ℕ
dash = 0x2D

abbrev pub dot : ℕ
dot = 0x2E

abbrev pub pair : ℕ → List ℕ
pair b = digit (b / 16) ∷ digit (b % 16) ∷ []

-- each pair after a dot
unfoldable pub further : List ℕ → List ℕ
further [] = []
further (b ∷ bs) = dot ∷ (pair b ++ further bs)

-- `-` for none
unfoldable pub pairs : List ℕ → List ℕ
pairs [] = dash ∷ []
pairs (b ∷ bs) = pair b ++ further bs
