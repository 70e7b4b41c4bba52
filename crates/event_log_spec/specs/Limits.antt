-- How much the log holds, and what a command is lent and carries. 02, L3: the last 128 events made, each with a 32-bit identifier and 8 bytes; out
-- under 130 is NoRoom; FRAME content without check not 3..63 bytes is BadRequest. Assumes nothing.
use Rattle.std.specs.Prelude.{ℕ, ◌+◌, ◌-◌, ◌*◌}
use Rattle.wire_spec.specs.Limits.{most_image}
use Rattle.link_spec.specs.Limits.{least_content, most_data}

abbrev pub most_held : ℕ
most_held = 128

abbrev pub body_length : ℕ
body_length = 8

abbrev pub ring_length : ℕ
ring_length = most_held * body_length

-- how many identifiers of 32 bits there are
abbrev pub identifiers : ℕ
identifiers = 0x100000000

-- the out buffer holds the image of any frame
abbrev pub room : ℕ
room = most_image

-- a content without its check of one byte
abbrev pub least_front : ℕ
least_front = least_content - 1

abbrev pub most_front : ℕ
most_front = least_front + most_data
