-- `chunk::add_all`: at each turn, what is left of the chunk gives, from the totals so far, what the whole chunk gives from the first.
-- Assumes nothing.
use mathlib.Core.Path.{◌≡◌}
use mathlib.Core.List.{List}
use Prim.Native.Nat.{ℕ}
use Rattle.std.specs.Slice.Iter.{chunks_rest, chunks_size}
use Rattle.totals_spec.specs.declared.totals.Totals.{Totals}
use Rattle.totals_spec.specs.Adding.{totals_after}
use Rattle.totals_spec.proofs.Laws.Adding.{Fine}
use Rattle.totals.proofs.chunk.add_all.Given as goal

-- with this left of the chunk
pub record AddedSoFar (chunk : List ℕ) (first : Totals) (left : List ℕ) (totals : Totals) : Type 0 where
  pub fine : Fine totals
  pub same : totals_after totals left ≡ totals_after first chunk

abbrev pub invariant-loop-part : goal.invariant-loop-part
invariant-loop-part l =
    goal.iterator-loop-part.can_next l.part-iterator
    × goal.iterator-loop-part.is_finite l.part-iterator
    × (chunks_size l.part-iterator ≡ 2048)
    × AddedSoFar l.chunk l.fn.totals (chunks_rest l.part-iterator) l.totals
