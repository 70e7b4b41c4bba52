-- The fewest bytes of a content, and the most of a frame's data. 01, Layout of a frame, the table: the least content of a frame is 4 bytes, on
-- both lines; content is at most 64 bytes, so data is at most 60. Assumes nothing.
use Rattle.std.specs.Prelude.{ℕ, ◌-◌}
use Rattle.wire_spec.specs.Limits.{most_content}

abbrev pub least_content : ℕ
least_content = 4

abbrev pub most_data : ℕ
most_data = most_content - least_content
