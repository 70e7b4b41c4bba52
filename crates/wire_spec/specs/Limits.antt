-- The most bytes of a content, and of its image. 01, Layout of a frame: content is at most 64 bytes. Assumes nothing.
use Rattle.std.specs.Prelude.{ℕ, ◌+◌, ◌*◌}

abbrev pub most_content : ℕ
most_content = 64

-- a frame's longest image: start, stop, and two bytes for each of the content. 01, The point reader: at least 130 bytes
abbrev pub most_image : ℕ
most_image = 2 + 2 * most_content
