-- The addresses of the addressed line: each byte is the master's, broadcast, a reader's own, or never an address.
-- 01, Layout of a frame, 'Addresses'; 000, 'Транспортный уровень'. Assumes nothing.
use Rattle.std.specs.Prelude.{ℕ, ◌≤◌, Bool, cond, ◌||◌, ◌&&◌, eqb, leb}
use Rattle.wire_spec.specs.Stuffing.{special}

-- 00 is the master
abbrev pub is_master : ℕ → Bool
is_master a = eqb a 0x00

-- 7F reaches every reader
abbrev pub is_broadcast : ℕ → Bool
is_broadcast a = eqb a 0x7F

-- a reader's own address is 01..7E or 80..FC
abbrev pub is_own : ℕ → Bool
is_own a = leb 0x01 a && leb a 0x7E || leb 0x80 a && leb a 0xFC

-- FD, FE and FF, which stuffing changes, are never addresses
abbrev pub is_never : ℕ → Bool
is_never a = special a

-- a station is the master or a reader
abbrev pub is_station : ℕ → Bool
is_station a = is_master a || is_own a

-- a master station takes 00 only; a reader takes its own address and 7F
unfoldable pub takes : ℕ → ℕ → Bool
takes own a = cond (is_master own) (is_master a) (eqb a own || is_broadcast a)

-- ---- the same in numbers, for the rows of the refusal table

-- FD..FF
abbrev pub Never : ℕ → Type 0
Never a = (0xFD ≤ a) × (a ≤ 0xFF)

-- an address no station may have: 7F or FD..FF, which are the bytes from FD on
pub data NoStation : ℕ → Type 0 where
  broadcast : NoStation 0x7F
  never : {own : ℕ} → 0xFD ≤ own → NoStation own
