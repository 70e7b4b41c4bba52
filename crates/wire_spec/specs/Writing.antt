-- What the calls on images answer and leave in the buffer lent to them, for every input.
-- 01, Layout of a frame, the last paragraph, and Refusal numbers. Assumes nothing.
use Rattle.std.specs.Prelude.{ℕ, cond, List, ltb, length, Result}
use Rattle.ground.specs.declared.refusal.Refusal.{Refusal}
use Rattle.ground.specs.declared.refusal.Refusal.TheVariants.{NoRoom, TooLong}
use Rattle.ground.specs.Refusals.{Tally, tally as tally_of, refused, counted}
use Rattle.ground.specs.Laying.{onto}
use Rattle.wire_spec.specs.Limits.{most_content}
use Rattle.wire_spec.specs.Image.{image, image_length}

-- 01, Refusal numbers, row 2: a length asked for content over 64 is TooLong
unfoldable pub length_asked : List ℕ → Tally
length_asked content = cond (ltb most_content (length content)) (refused TooLong) (counted (image_length content))

-- a call's answer, and the contents of the lent buffer as it returns
pub record After : Type 0 where
  pub tally : Tally
  pub out : List ℕ

abbrev pub leaving : Tally → List ℕ → After
leaving says out = record { tally = says; out = out }

-- what a call's result says, and what it left
abbrev pub after : Result ℕ Refusal → List ℕ → After
after r out = leaving (tally_of r) out

-- 01, Refusal numbers, below the table: a refused call returns the number and count 0, with buffers as before
abbrev pub not_written : Refusal → List ℕ → After
not_written why out = leaving (refused why) out

-- 01, Layout of a frame, the last paragraph: the count is the image's length, and bytes after the image stay as they were
abbrev pub putting : List ℕ → List ℕ → After
putting content out = leaving (counted (length (image content))) (onto (image content) out)

-- 01, Refusal numbers, row 1: out shorter than the image is NoRoom
unfoldable pub image_written : List ℕ → List ℕ → After
image_written content out = cond (ltb (length out) (length (image content))) (not_written NoRoom out) (putting content out)
