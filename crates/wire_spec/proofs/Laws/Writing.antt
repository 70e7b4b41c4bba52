-- Laws of an image's length asked, and of writing it: what stands in the buffer, what is asked before, and what a refusal leaves.
-- Assumes nothing.
use mathlib.Core.Path.{◌≡◌, refl, ◌∙◌}
use mathlib.Core.List.{List, [], ◌∷◌, ◌++◌}
use Prim.Native.Nat.{ℕ, ◌+◌, ◌≤◌, ◌<◌}
use native.Mathlib.Omega.{arith}
use lib.Dec.{ltb}
use lib.ListN.{length, drop, set, length-set}
use borrow.Author.Tests.{lt-ltb, le-ltb}
use Rattle.ground.specs.declared.refusal.Refusal.TheVariants.{NoRoom, TooLong}
use Rattle.ground.specs.Refusals.{Keeps, refused, counted}
use Rattle.ground.specs.Laying.{laid}
use Rattle.ground.proofs.Laws.Choice.{cond-elim}
use Rattle.ground.proofs.Laws.Laying.{laid_next, laid-front, set_after}
use Rattle.wire_spec.specs.Limits.{most_content}
use Rattle.wire_spec.specs.Stuffing.{stuffing}
use Rattle.wire_spec.specs.Image.{start, stop, image, image_length}
use Rattle.wire_spec.specs.Writing.{length_asked, After, not_written, putting, image_written}
use Rattle.wire_spec.proofs.Laws.Image.{image-stuffing}

-- row 2 of the refusal table, of a length asked: when, and else it is the image's
pub length-refused : (content : List ℕ) → most_content < length content → length_asked content ≡ refused TooLong
unfolding length_asked
length-refused content over = rw (lt-ltb most_content (length content) over)

pub length-answered : (content : List ℕ) → length content ≤ most_content → length_asked content ≡ counted (image_length content)
unfolding length_asked
length-answered content within = rw (le-ltb most_content (length content) within)

-- start, then the stuffing in the room after it, then stop: the image stands in front
pub image-laid : (content out : List ℕ) → length (image content) ≤ length out
    → set (laid (set out 0 start) 1 (stuffing content)) (1 + length (stuffing content)) stop
    ≡ image content ++ drop (length (image content)) out
unfolding image
image-laid content out h =
    let S = stuffing content in
    let room : 2 + length S ≤ length out = omega (arith, image-stuffing content) in
    set_after (set out 0 start) 1 S stop (rw (length-set out 0 start) (omega arith))
    ∙ laid_next out 0 start (S ++ (stop ∷ [])) (omega arith)
    ∙ laid-front out (start ∷ S ++ (stop ∷ []))

-- what is left in the buffer where the image has no room, and where it has
pub written-short : (content out : List ℕ) → length out < length (image content) → image_written content out ≡ not_written NoRoom out
unfolding image_written
written-short content out short = rw (lt-ltb (length out) (length (image content)) short)

pub written-whole : (content out : List ℕ) → length (image content) ≤ length out → image_written content out ≡ putting content out
unfolding image_written
written-whole content out fits = rw (le-ltb (length out) (length (image content)) fits)

-- a refused call leaves the buffer as before
pub written_keeps : (content out : List ℕ) → Keeps (image_written content out).tally.refusal out (image_written content out).out
unfolding image_written
written_keeps content out =
    cond-elim (λ (a : After). Keeps a.tally.refusal out a.out) (ltb (length out) (length (image content))) (λ short refused. refl)
    (λ fits refused. absurd (refused refl))
