-- What the frame writers answer and leave in the buffer lent to them, for every input.
-- 01, Layout of a frame, the last paragraph, and Refusal numbers. Assumes nothing.
use Rattle.std.specs.Prelude.{ℕ, ◌≤◌, ◌<◌, Bool, false, cond, List, ltb, length}
use Rattle.ground.specs.declared.refusal.Refusal.TheVariants.{NoRoom, TooLong, BadAddress}
use Rattle.wire_spec.specs.Image.{image}
use Rattle.wire_spec.specs.Writing.{After, not_written, putting, image_written}
use Rattle.link_spec.specs.Limits.{most_data}
use Rattle.link_spec.specs.Address.{is_never, Never}
use Rattle.link_spec.specs.Frame.{point_content, addressed_content}

-- 01, Refusal numbers, rows 2 and 3, and 'Order': writer 2, 3, 1; then the image
unfoldable pub written_unless : Bool → List ℕ → List ℕ → List ℕ → After
written_unless never «data» content out =
    cond (ltb most_data (length «data»)) (not_written TooLong out)
    (cond never (not_written BadAddress out) (image_written content out))

-- a point frame has no address to refuse
unfoldable pub point_written : ℕ → ℕ → List ℕ → List ℕ → After
point_written identifier command «data» out = written_unless false «data» (point_content identifier command «data») out

-- an addressed frame is refused the addresses that are never one
unfoldable pub addressed_written : ℕ → ℕ → ℕ → List ℕ → List ℕ → After
addressed_written address identifier command «data» out =
    written_unless (is_never address) «data» (addressed_content address identifier command «data») out

-- The writer's rows of the refusal table, and the frame where no row applies, where `NoAddress` says that the address is FD..FF. `Laws.Writers`
-- proves that each writer answers by them, and that they leave it no other answer.
pub data WriterTable (NoAddress : Type 0) («data» content out : List ℕ) : After → Type 0 where
  too_long : most_data < length «data» → WriterTable NoAddress «data» content out (not_written TooLong out)
  bad_address : length «data» ≤ most_data → NoAddress → WriterTable NoAddress «data» content out (not_written BadAddress out)
  no_room : length «data» ≤ most_data
      → (NoAddress → ⊥)
      → length out < length (image content)
      → WriterTable NoAddress «data» content out (not_written NoRoom out)
  frame : length «data» ≤ most_data
      → (NoAddress → ⊥)
      → length (image content) ≤ length out
      → WriterTable NoAddress «data» content out (putting content out)

-- a point frame has no address: its writer never answers by the second row
abbrev pub PointTable : ℕ → ℕ → List ℕ → List ℕ → After → Type 0
PointTable identifier command «data» out = WriterTable ⊥ «data» (point_content identifier command «data») out

abbrev pub AddressedTable : ℕ → ℕ → ℕ → List ℕ → List ℕ → After → Type 0
AddressedTable address identifier command «data» out =
    WriterTable (Never address) «data» (addressed_content address identifier command «data») out
