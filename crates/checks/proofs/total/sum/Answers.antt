-- `total::sum`: at each turn, the total so far and that of the bytes that are left make the total of all bytes, modulo 256.
-- Assumes nothing.
use mathlib.Core.Path.{ap}
use native.Mathlib.Omega.{arith}
use lib.ListN.{drop_of_length-le}
use Rattle.ground.proofs.Laws.Lists.{drop-next}
use Rattle.checks.specs.Sum.{total, sum}
use Rattle.checks.proofs.total.sum.Goals as goal

pub loop-byte-preserved : goal.loop-byte-preserved
unfolding total
loop-byte-preserved c =
    omega (arith, ap total (drop-next c.args.bytes.now c.loop-byte.byte-index c.loop-byte-test.true))

pub returns : goal.returns
unfolding total sum
returns c =
    omega (arith, ap total (drop_of_length-le c.args.bytes.now c.loop-byte-test.false))
