-- The FCS, the point line's check of two bytes.
-- 01, Layout of a frame, 'FCS'; RFC 1331, which decides it; 001, 'FCS', whose listing X_FCS is `byte_step`. Assumes nothing.
use Rattle.std.specs.Prelude.{ℕ, zero, suc, ◌*◌, ◌/◌, ◌%◌, List, [], ◌∷◌}
use Rattle.std.specs.Int.Bits.{bit_and, bit_xor}

-- one shift step: shifted right by one, and where the bit that went out was set, changed by 0x8408
unfoldable pub shift_step : ℕ → ℕ
shift_step w = bit_xor (w / 2) (bit_and w 1 * 0x8408)

-- several in a row
unfoldable pub shift_steps : ℕ → ℕ → ℕ
shift_steps zero w = w
shift_steps (suc n) w = shift_steps n (shift_step w)

-- the register after one more byte: the byte meets the register's low half, which goes through eight shift steps, and the high
-- half is shifted down
unfoldable pub byte_step : ℕ → ℕ → ℕ
byte_step register b = bit_xor (shift_steps 8 (bit_and (bit_xor b register) 0xFF)) (register / 0x100)

-- the register after several bytes
unfoldable pub run : ℕ → List ℕ → ℕ
run register [] = register
run register (b ∷ bs) = run (byte_step register b) bs

-- from FFFF over all bytes, the first one first; not inverted
unfoldable pub residue : List ℕ → ℕ
residue bytes = run 0xFFFF bytes

-- inverted at the end
unfoldable pub fcs : List ℕ → ℕ
fcs bytes = bit_xor (residue bytes) 0xFFFF

-- as it travels: low byte, high byte
unfoldable pub fcs_bytes : List ℕ → List ℕ
fcs_bytes bytes = fcs bytes % 0x100 ∷ fcs bytes / 0x100 ∷ []

-- what content with its FCS leaves in the register
abbrev pub good_residue : ℕ
good_residue = 0xF0B8
