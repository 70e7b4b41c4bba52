-- `image::image_length`: its test is that of `length_asked`, and a content within the limit has no more than twice as many bytes stuffed.
-- Assumes nothing.
use mathlib.Core.Path.{sym, ap, ◌∙◌}
use Prim.Native.Nat.{ℕ, ◌+◌}
use native.Mathlib.Omega.{arith}
use Rattle.ground.specs.Refusals.{counted}
use Rattle.wire_spec.proofs.Laws.Stuffing.{length-stuffing, specials-most}
use Rattle.wire_spec.proofs.Laws.Image.{length-image, image-stuffing}
use Rattle.wire_spec.proofs.Laws.Writing.{length-answered}
use Rattle.wire.proofs.image.image_length.Goals as goal

pub overflow_add-result : goal.overflow_add-result
overflow_add-result c =
    let content = c.args.content.now in
    omega (arith, c.stuffed_length.ensures, length-stuffing content, specials-most content)

pub returns : goal.returns
returns c =
    let content = c.args.content.now in
    ap counted (ap (λ (n : ℕ). 2 + n) c.stuffed_length.ensures ∙ sym (image-stuffing content) ∙ length-image content)
    ∙ sym (length-answered content (omega arith))
