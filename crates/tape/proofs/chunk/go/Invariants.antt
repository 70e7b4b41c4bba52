-- `chunk::go`: at each turn, what is left of the chunk gives, from the tape so far, what the whole chunk gives; the loop ends where `going`
-- stops.
-- Assumes nothing.
use mathlib.Core.Path.{◌≡◌}
use mathlib.Core.List.{List}
use Prim.Native.Nat.{ℕ, ◌-◌}
use lib.ListN.{length}
use Rattle.tape_spec.specs.declared.tape.Tape.{Tape}
use Rattle.tape_spec.specs.Taping.{going, ListedOut, text_written}
use Rattle.tape.proofs.Laws.Chunks.{Goes}
use Rattle.tape.proofs.chunk.go.Given as goal

-- what the whole chunk gives
abbrev pub asked : List ℕ → Tape → List ℕ → ListedOut
asked chunk t out = text_written (going (length out) t chunk) out

abbrev pub invariant-loop-taken : goal.invariant-loop-taken
invariant-loop-taken l =
    Goes l.chunk (asked l.chunk l.initial.tape l.initial.out) l.out l.tape l.taken l.written
    × (length l.out ≡ length l.initial.out) × (length l.piece ≡ 128)

abbrev pub decreases-loop-taken : goal.decreases-loop-taken
decreases-loop-taken l = length l.chunk - l.taken
