-- `sweep::is_address`: on the point line no byte is, and on the addressed line only the first.
-- Assumes nothing.
use mathlib.Core.Path.{◌≡◌, refl, sym, ◌∙◌}
use mathlib.Core.Bool.{false, true≢false}
use Prim.Native.Nat.{ℕ, zero, suc}
use lib.Dec.{eqb}
use Rattle.link_spec.specs.declared.station.Station.{Station}
use Rattle.link_spec.specs.declared.station.Station.TheVariants.{Point, Addressed}
use Rattle.link_spec.specs.Rules.{Later, on_point, after_first}
use Rattle.totals.proofs.sweep.is_address.Goals as goal
use Rattle.totals.proofs.sweep.is_address.Goals.{in-Addressed, in_default}

later-is : (station : Station) (count : ℕ) → ((own : ℕ) → station ≡ Addressed own → eqb count 0 ≡ false) → Later station count
later-is Point count none = on_point
later-is (Addressed own) zero none = absurd (true≢false (none own refl))
later-is (Addressed own) (suc count) none = after_first

pub returns-then-matches : goal.returns-then-matches
returns-then-matches c = record { later = λ none. later-is c.args.station c.args.count (λ own is. none) }

pub returns-else-matches : goal.returns-else-matches
returns-else-matches c =
    record {
      later = λ none. later-is c.args.station c.args.count (λ own is. elim c.match-matches.branch [
        | in-Addressed w ↦ absurd (true≢false (sym w.matches-is ∙ c.if-matches.false))
        | in_default w ↦ absurd (w.in_default.not-Addressed own is)
      ]);
    }
