-- `run::gather`: at each turn, the front of the chunk is the bodies so far with the kind before each but the first.
-- Assumes nothing.
use mathlib.Core.Path.{refl, ◌∙◌}
use Prim.Native.Nat.{◌*◌}
use native.Mathlib.Omega.{arith}
use lib.ListN.{get_or, length-set}
use Rattle.tape.proofs.Laws.Running.{gather-first, gather-next}
use Rattle.tape.proofs.run.gather.Goals as goal

pub loop-count-init : goal.loop-count-init
loop-count-init c =
    let a = c.args in
    (omega arith, omega arith, refl, gather-first a.kind a.chunk.now a.piece.now (omega arith) (omega arith))

pub loop-count-preserved : goal.loop-count-preserved
loop-count-preserved c =
    let l = c.loop-count in
    let a = c.args in
    -- the piece keeps its length
    let kept = l.invariant.2 ∙ length-set a.piece.now 0 (get_or a.chunk.now 0 0) in (
      omega arith,
      omega arith,
      length-set l.piece l.count (get_or a.chunk.now (2 * l.count) 0) ∙ l.invariant.2,
      gather-next a.kind a.chunk.now l.piece l.count (omega arith) (omega arith) (omega arith) c.if-chunk-count.true l.invariant.3,
    )
