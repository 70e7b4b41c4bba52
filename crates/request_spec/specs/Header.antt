-- The device header.
-- 01, The point reader; 001 and 003, 'Заголовок устройства' and 'Многобайтовые переменные'. Assumes nothing.
use Rattle.std.specs.Prelude.{ℕ, ◌%◌, ◌/◌, List, [], ◌∷◌, ◌++◌}

-- 01, Layout of a frame: multi-byte whole numbers go low byte first; here those of 32 bits
abbrev pub low_first : ℕ → List ℕ
low_first n = n % 0x100 ∷ n / 0x100 % 0x100 ∷ n / 0x10000 % 0x100 ∷ n / 0x1000000 % 0x100 ∷ []

-- name, then five 32-bit numbers: device kind, version, protocol version, serial, flags
unfoldable pub header : List ℕ → ℕ → ℕ → ℕ → ℕ → ℕ → List ℕ
header name kind version protocol serial flags =
    name ++ (low_first kind ++ (low_first version ++ (low_first protocol ++ (low_first serial ++ low_first flags))))
