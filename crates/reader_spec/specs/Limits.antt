-- The limits of the point reader, each under one name.
-- Assumes nothing.
use Rattle.std.specs.Prelude.{ℕ, ◌+◌}
use Rattle.wire_spec.specs.Limits.{most_image}
use Rattle.link_spec.specs.Limits.{most_data}

-- 01, The point reader: a store and an out buffer, each of at least 130 bytes, which hold the image of any frame
abbrev pub room : ℕ
room = most_image

-- 01, Refusal numbers, row 5: content without check is 2..62 bytes
abbrev pub least_front : ℕ
least_front = 2

abbrev pub most_front : ℕ
most_front = least_front + most_data
