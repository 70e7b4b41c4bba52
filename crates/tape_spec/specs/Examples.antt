-- Tapes with their listings, as rows of one table: the paper's, and the four ways in which a tape ends. The claim is that each holds;
-- `proofs/Laws/Examples` proves it. 01, The listing program. Assumes nothing.
use Rattle.std.specs.Prelude.{ℕ, ◌≡◌, List, [], ◌∷◌}
use Prim.Native.String.{String}
use Rattle.text.specs.Ascii.{ascii}
use Rattle.tape_spec.specs.declared.tape.Ending.{Ending}
use Rattle.tape_spec.specs.declared.tape.Ending.TheVariants.{End as END, Full as FULL}
use Rattle.tape_spec.specs.Rows.{last_row}
use Rattle.tape_spec.specs.Whole.{parts, listing}

pub data Example : Type 0 where
  lists : (tape : List ℕ) (printed : String) → Example
  -- after this many records the tape ends like this
  ends : (records : ℕ) (tape : List ℕ) (ending : Ending) → Example
  last : (ending : Ending) (records : ℕ) (printed : String) → Example

abbrev pub Holds : Example → Type 0
Holds (lists tape printed) = listing tape ≡ ascii printed
Holds (ends records tape ending) = (parts records tape).ending ≡ ending
Holds (last ending records printed) = last_row ending records ≡ ascii printed

abbrev pub examples : List Example
examples =
    lists (0x01 ∷ 0xFD ∷ 0x01 ∷ 0x00 ∷ 0x01 ∷ 0x00 ∷ 0x01 ∷ 0x47 ∷ 0x01 ∷ 0x0F ∷ 0x01 ∷ 0xFE ∷ 0x02 ∷ 0xFD ∷ 0x02 ∷ 0x00 ∷ 0x02 ∷ 0x01 ∷ 0x02 ∷ 0x2A ∷ 0x02 ∷ 0x55 ∷ 0x02 ∷ 0x80 ∷ 0x02 ∷ 0xFE ∷ [])
    "record line event content\n5 P FRAME 00.00\n12 A FRAME 00.01.2A.55\nend 13\n"
    ∷ lists [] "record line event content\nend 0\n"
    ∷ lists (0x01 ∷ []) "record line event content\ncut 0\n"
    ∷ lists (0x03 ∷ []) "record line event content\nbad 0\n"
    -- nothing is read after an unknown kind
    ∷ lists (0x01 ∷ 0xFD ∷ 0x00 ∷ 0x01 ∷ 0xFE ∷ []) "record line event content\nbad 1\n"
    -- what was heard on one line does not disturb a frame on the other
    ∷ lists (0x02 ∷ 0xFD ∷ 0x01 ∷ 0xFD ∷ 0x02 ∷ 0x00 ∷ 0x01 ∷ 0xFF ∷ 0x02 ∷ 0x01 ∷ 0x01 ∷ 0xFE ∷ 0x02 ∷ 0x10 ∷ 0x02 ∷ 0x11 ∷ 0x02 ∷ 0xFE ∷ [])
    "record line event content\n5 P PAIR -\n8 A FRAME 00.01.10\nend 9\n"
    -- SHORT, a right frame, and CHECK, which shows no content
    ∷ lists (0x01 ∷ 0xFD ∷ 0x01 ∷ 0xFE ∷ 0x01 ∷ 0xFD ∷ 0x01 ∷ 0x00 ∷ 0x01 ∷ 0x00 ∷ 0x01 ∷ 0x47 ∷ 0x01 ∷ 0x0F ∷ 0x01 ∷ 0xFE ∷ 0x01 ∷ 0xFD ∷ 0x01 ∷ 0x00 ∷ 0x01 ∷ 0x00 ∷ 0x01 ∷ 0x47 ∷ 0x01 ∷ 0x0E ∷ 0x01 ∷ 0xFE ∷ [])
    "record line event content\n1 P SHORT -\n7 P FRAME 00.00\n13 P CHECK -\nend 14\n"
    -- ADDR, and deaf until the next FD
    ∷ lists (0x02 ∷ 0xFD ∷ 0x02 ∷ 0x05 ∷ 0x02 ∷ 0xFE ∷ 0x02 ∷ 0xFD ∷ []) "record line event content\n1 A ADDR -\nend 4\n"
    -- the last permitted record, and a byte after it
    ∷ ends 0xFFFFFFFE (0x01 ∷ 0xFD ∷ []) END
    ∷ ends 0xFFFFFFFE (0x01 ∷ 0xFD ∷ 0x01 ∷ []) FULL
    ∷ ends 0xFFFFFFFF [] END
    ∷ ends 0xFFFFFFFF (0x07 ∷ 0x07 ∷ []) FULL
    ∷ last FULL 0xFFFFFFFF "full 4294967295\n"
    ∷ []
