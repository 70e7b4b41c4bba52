-- The cards that an antenna reads, how many bytes it answers for each, and the number that a card's code stands for.
-- 01, The point reader, the table, and 'Master's side'; Layout of a frame, of numbers. Assumes nothing.
use Rattle.std.specs.Prelude.{ℕ, ◌+◌, ◌*◌, Bool, ◌&&◌, List, [], ◌∷◌, eqb, leb, drop}
use Rattle.request_spec.specs.declared.command.Card.{Card}
use Rattle.request_spec.specs.declared.command.Card.TheVariants.{Marin, Hid, Motorola}
use Rattle.request_spec.specs.Limits.{most_antenna}

-- the antenna's bytes are 1 to 8, and none for no card
abbrev pub is_read : ℕ → Bool
is_read n = leb 1 n && leb n most_antenna

-- 10 and 14: antenna's bytes, 1 to 8; 18: 5 bytes
abbrev pub is_code : Card → ℕ → Bool
is_code Marin n = is_read n
is_code Hid n = is_read n
is_code Motorola n = eqb n 5

-- Which of the antenna's bytes are the card's code. 001 and 003 have a code of 5 bytes for each card, in '0x10 – "Чтение карты EM-Marin"' and
-- '0x18 – "Чтение карты Motorola"' alone, in '0x14 – "Чтение карты HID"' after one byte, 'Тип Wiegand'.
abbrev pub code_of : Card → List ℕ → List ℕ
code_of Marin answer = answer
code_of Hid answer = drop 1 answer
code_of Motorola answer = answer

-- the number that bytes stand for with the high byte first, after a number that was read before them
unfoldable pub high_first : ℕ → List ℕ → ℕ
high_first before [] = before
high_first before (b ∷ bs) = high_first (before * 0x100 + b) bs

-- card codes go high byte first (001, 'Многобайтовые переменные'); the calls here hand the antenna's bytes on as they come
abbrev pub code_number : Card → List ℕ → ℕ
code_number card answer = high_first 0 (code_of card answer)
