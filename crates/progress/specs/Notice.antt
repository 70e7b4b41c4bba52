-- The notice of how many bytes are read, and the blanks that take it away. A carriage return takes a terminal back to the first place of its
-- row; what is written then stands over what was there. Assumes nothing.
use Rattle.std.specs.Prelude.{ℕ, List, [], ◌∷◌, ◌++◌, replicate}
use Rattle.ground.specs.Laying.{onto}
use Rattle.text.specs.Ascii.{ascii}
use Rattle.text.specs.Decimal.{decimal}

abbrev pub carriage_return : ℕ
carriage_return = 0x0D

abbrev pub blank : ℕ
blank = 0x20

-- what is to be read
unfoldable pub words : ℕ → List ℕ
words read = decimal read ++ ascii " bytes read"

-- places that every notice has room in: 20 digits, 2 blanks and 9 letters
abbrev pub places : ℕ
places = 31

-- the words, and blanks in the places after them
unfoldable pub notice : ℕ → List ℕ
notice read = carriage_return ∷ onto (words read) (replicate places blank)

-- a blank in each place, and back to the first
abbrev pub blanks : List ℕ
blanks = carriage_return ∷ (replicate places blank ++ (carriage_return ∷ []))
