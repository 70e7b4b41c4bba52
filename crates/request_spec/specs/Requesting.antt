-- What the writer of typed requests answers and leaves in the buffer lent to it.
-- 01, Refusal numbers, rows 5 and 1, and 'Order': writing a typed request 5, 1. Assumes nothing.
use Rattle.std.specs.Prelude.{ℕ, ◌≤◌, ◌<◌, cond, List, length}
use Rattle.ground.specs.declared.refusal.Refusal.TheVariants.{NoRoom, BadRequest}
use Rattle.wire_spec.specs.Image.{image}
use Rattle.wire_spec.specs.Writing.{After, not_written, putting, image_written}
use Rattle.link_spec.specs.Frame.{point_content}
use Rattle.request_spec.specs.declared.command.Command.{Command}
use Rattle.request_spec.specs.Acceptance.{acceptance, is_accepted, Accepts}

-- a request that every reader, also a fast one (02, L2), would answer with a NACK at step 4 or 5 is BadRequest; else the frame's image, if there
-- is room for it
unfoldable pub request_written : ℕ → ℕ → List ℕ → List ℕ → After
request_written identifier code «data» out =
    cond (is_accepted (acceptance code «data»)) (image_written (point_content identifier code «data») out) (not_written BadRequest out)

-- The typed writer's rows of the refusal table, and the frame where no row applies. `Laws.Requesting` proves that `request_written` answers by
-- them, and that they leave it no other answer.
pub data RequestTable (identifier code : ℕ) («data» out : List ℕ) : After → Type 0 where
  bad_request : ((command : Command) → Accepts code «data» command → ⊥) → RequestTable identifier code «data» out (not_written BadRequest out)
  no_room : {command : Command} → Accepts code «data» command
      → length out < length (image (point_content identifier code «data»))
      → RequestTable identifier code «data» out (not_written NoRoom out)
  frame : {command : Command} → Accepts code «data» command
      → length (image (point_content identifier code «data»)) ≤ length out
      → RequestTable identifier code «data» out (putting (point_content identifier code «data») out)
