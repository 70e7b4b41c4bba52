-- The wire image of a content, and its length.
-- 01, Layout of a frame. Assumes nothing.
use Rattle.std.specs.Prelude.{ℕ, ◌+◌, List, [], ◌∷◌, ◌++◌, length}
use Rattle.wire_spec.specs.Stuffing.{stuffing, specials}

-- start is FD, stop is FE
abbrev pub start : ℕ
start = 0xFD

abbrev pub stop : ℕ
stop = 0xFE

-- start, stuffed content, stop
unfoldable pub image : List ℕ → List ℕ
image content = start ∷ stuffing content ++ (stop ∷ [])

-- 2 + content + number of content bytes that are FD, FE or FF
unfoldable pub image_length : List ℕ → ℕ
image_length content = 2 + length content + specials content
