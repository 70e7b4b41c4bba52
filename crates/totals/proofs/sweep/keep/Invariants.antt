-- `sweep::keep`: at each turn, every byte so far stood for itself and was kept.
-- Assumes nothing.
use mathlib.Core.Path.{◌≡◌}
use mathlib.Core.List.{List}
use Prim.Native.Nat.{ℕ, ◌+◌, ◌-◌}
use lib.ListN.{length}
use Rattle.link_spec.specs.declared.station.Station.{Station}
use Rattle.link_spec.specs.Rules.{Later}
use Rattle.totals.specs.Sweeping.{Kept}
use Rattle.totals.proofs.sweep.keep.Given as goal

-- for every station whose next byte was not the address
pub record KeptSoFar (content₀ : List ℕ) (count : ℕ) (piece : List ℕ) (from : ℕ) (content : List ℕ) (kept at : ℕ) : Type 0 where
  pub here : at ≡ from + (kept - count)
  pub keeps : (station : Station) → Later station count → Kept station content₀ count piece from kept content × Later station kept

abbrev pub invariant-loop-at : goal.invariant-loop-at
invariant-loop-at l = KeptSoFar l.initial.content l.count l.piece l.from l.content l.kept l.at

abbrev pub decreases-loop-at : goal.decreases-loop-at
decreases-loop-at l = length l.piece - l.at
