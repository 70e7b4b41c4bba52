-- `ranks::report`: totals that are not bad have sums of either line that are not bad.
-- Assumes nothing.
use mathlib.Core.Path.{sym, ◌∙◌}
use mathlib.Core.Bool.{◌||◌}
use Rattle.ground.proofs.Laws.Choice.{or-none}
use Rattle.tape_spec.specs.Taping.{bad_tape}
use Rattle.totals_spec.specs.Adding.{bad_sums}
use Rattle.ledger.proofs.ranks.report.Goals as goal

pub rank-requires : goal.rank-requires
rank-requires c =
    let t = c.args.totals in
    let n = t.tape.records in
    let a = or-none (bad_tape t.tape) (bad_sums n t.point || bad_sums n t.addressed) (sym c.is_bad_totals.ensures ∙ c.if-is_bad_totals.false) in
    let b = or-none (bad_sums n t.point) (bad_sums n t.addressed) a.1 in
    record { point_good = b.0; addressed_good = b.1 }
