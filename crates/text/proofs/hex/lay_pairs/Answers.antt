-- `hex::lay_pairs`: at each turn, to lay what is left at the place reached gives what was asked for.
-- Assumes nothing.
use mathlib.Core.Path.{◌≡◌, ◌∙◌}
use Prim.Native.Nat.{◌<◌}
use native.Mathlib.Omega.{arith}
use lib.ListN.{length, length-set, drop_of_length-le}
use Rattle.ground.proofs.Laws.Lists.{drop-next}
use Rattle.ground.proofs.Laws.Laying.{laid_nil, laid_more}
use Rattle.text.specs.Hex.{dot, further, pairs}
use Rattle.text.proofs.Laws.Hex.{laid-further}
use Rattle.text.proofs.hex.lay_pairs.Goals as goal

pub loop-byte-preserved : goal.loop-byte-preserved
loop-byte-preserved c =
    let l = c.loop-byte in
    let h : l.end < length l.out = omega arith in
    let e : length c.lay_pair-in-loop-byte.new.out ≡ length l.out = omega (arith, c.lay_pair-in-loop-byte.auto, length-set l.out l.end dot) in (
      omega arith,
      omega arith,
      rw (c.lay_pair-in-loop-byte.ensures, laid-further, ← drop-next, c.loop-byte-test.true) l.invariant.2,
    )

pub returns : goal.returns
unfolding further pairs
returns c =
    let l = c.loop-byte in
    let a = c.args in (
      omega arith,
      rw (drop_of_length-le a.others.now c.loop-byte-test.false, laid_nil) at l.invariant.2
          ∙ rw c.lay_pair.ensures (laid_more a.out.now a.at _ _ (omega arith)),
    )
