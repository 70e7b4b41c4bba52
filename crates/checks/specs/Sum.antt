-- The sum, the addressed line's check of one byte.
-- 01, Layout of a frame, 'Sum'; 000, 'Контрольная сумма'. Assumes nothing.
use Rattle.std.specs.Prelude.{ℕ, ◌+◌, ◌%◌, List, [], ◌∷◌}

-- all bytes together
unfoldable pub total : List ℕ → ℕ
total [] = 0
total (b ∷ bs) = b + total bs

-- modulo 256
unfoldable pub sum : List ℕ → ℕ
sum bytes = total bytes % 0x100
