-- Images written and their lengths asked, as rows of one table: P1 to a buffer that just holds it, P2 to a longer one, P1 to one that is a
-- byte short; the length of a stuffed content, and of 64 and 65 bytes. The claim is that each holds; `proofs/Laws/Examples` proves it. 01, Bench
-- examples, P1, P2 and 'room 6 and 5 for P1', and Refusal numbers, row 2. Assumes nothing.
use Rattle.std.specs.Prelude.{◌≡◌, List, [], ◌∷◌, ℕ, replicate}
use Rattle.wire_spec.specs.Writing.{length_asked, leaving, image_written}

pub data Example : Type 0 where
  -- the image of a content written to a buffer that held these bytes: the refusal, the count, and what it holds then
  writes : (content out : List ℕ) (refusal count : ℕ) (left : List ℕ) → Example
  -- the length of a content's image asked: the refusal and the count
  asks : (content : List ℕ) (refusal count : ℕ) → Example

abbrev pub Holds : Example → Type 0
Holds (writes content out refusal count left) = image_written content out ≡ leaving (record { refusal = refusal; count = count }) left
Holds (asks content refusal count) = length_asked content ≡ record { refusal = refusal; count = count }

abbrev pub examples : List Example
examples =
    writes (0x00 ∷ 0x00 ∷ 0x47 ∷ 0x0F ∷ []) (replicate 6 0xAA) 0 6 (0xFD ∷ 0x00 ∷ 0x00 ∷ 0x47 ∷ 0x0F ∷ 0xFE ∷ [])
    ∷ writes (0x00 ∷ 0x2A ∷ 0x55 ∷ 0xA7 ∷ 0x1D ∷ []) (replicate 8 0xAA) 0 7 (0xFD ∷ 0x00 ∷ 0x2A ∷ 0x55 ∷ 0xA7 ∷ 0x1D ∷ 0xFE ∷ 0xAA ∷ [])
    ∷ writes (0x00 ∷ 0x00 ∷ 0x47 ∷ 0x0F ∷ []) (replicate 5 0xAA) 1 0 (replicate 5 0xAA)
    ∷ asks (0xFD ∷ 0x00 ∷ []) 0 5
    ∷ asks (replicate 64 0x11) 0 66
    ∷ asks (replicate 65 0x11) 2 0
    ∷ []
