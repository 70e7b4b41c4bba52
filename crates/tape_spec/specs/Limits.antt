-- Limits of a tape and of its listing's rows. Assumes nothing.
use Rattle.std.specs.Prelude.{ℕ, ◌+◌, ◌*◌}
use Rattle.wire_spec.specs.Limits.{most_content}

-- 01, The listing program, the last line: 2^32 - 1
abbrev pub most_records : ℕ
most_records = 0xFFFFFFFF

-- no row is longer: 10 digits, a letter, a name of 5 letters, 3 blanks, and 3 places for each byte that content may have, the last of
-- them for the row's end
abbrev pub least_room : ℕ
least_room = 19 + 3 * most_content

-- no last row is longer: a word of 4 letters, a blank, 10 digits and the row's end
abbrev pub most_last : ℕ
most_last = 16
