-- A reply written to a buffer, which is what the functions of `reply` promise each other.
-- 01, The point reader, steps 2 and 4 to 6. Assumes nothing.
use Rattle.std.specs.Prelude.{ℕ, ◌≤◌, ◌≡◌, List}
use Rattle.ground.specs.Refusals.{counted}
use Rattle.wire_spec.specs.Writing.{leaving, putting}
use Rattle.reader_spec.specs.Limits.{room}

-- this content's image was put to the front of a buffer, and is no longer than a reader's buffers are at least
abbrev pub Fills : ℕ → List ℕ → List ℕ → List ℕ → Type 0
Fills count out' content out = (leaving (counted count) out' ≡ putting content out) × (count ≤ room)
