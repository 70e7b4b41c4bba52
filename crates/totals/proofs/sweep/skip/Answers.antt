-- `sweep::skip`: at each turn, every byte so far was ignored.
-- Assumes nothing.
use Rattle.totals.proofs.Laws.Sweeping.{skip-more}
use Rattle.totals.proofs.sweep.skip.Goals as goal

pub loop-at-preserved : goal.loop-at-preserved
loop-at-preserved c =
    skip-more c.loop-at.invariant c.loop-at-test.true c.if-piece-at.true
