-- Laws of the wire image: how long it is.
-- Assumes nothing.
use mathlib.Core.Path.{◌≡◌}
use mathlib.Core.List.{List}
use Prim.Native.Nat.{ℕ, ◌+◌, ◌*◌, ◌≤◌}
use native.Mathlib.Omega.{arith}
use lib.ListN.{length, length-append}
use Rattle.wire_spec.specs.Limits.{most_content, most_image}
use Rattle.wire_spec.specs.Stuffing.{stuffing}
use Rattle.wire_spec.specs.Image.{image, image_length}
use Rattle.wire_spec.proofs.Laws.Stuffing.{length-stuffing, specials-most}

-- the image is as long as its length says
pub length-image : (content : List ℕ) → length (image content) ≡ image_length content
unfolding image image_length
length-image content = simp length-append (omega (arith, length-stuffing content))

-- that is start, stop and what is between them
pub image-stuffing : (content : List ℕ) → length (image content) ≡ 2 + length (stuffing content)
unfolding image_length
image-stuffing content = omega (arith, length-image content, length-stuffing content)

-- no image is longer than twice its content, and start and stop
pub most-image : (content : List ℕ) → length (image content) ≤ 2 + 2 * length content
unfolding image_length
most-image content = omega (arith, length-image content, specials-most content)

-- so this much room holds the image of every content within the limit
pub room-for-any : (content : List ℕ) → length content ≤ most_content → length (image content) ≤ most_image
room-for-any content within = omega (arith, most-image content)
