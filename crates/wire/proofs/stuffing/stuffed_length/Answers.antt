-- `stuffing::stuffed_length`: at each turn, the length so far and the specials of what is left make the length of the whole, stuffed.
-- Assumes nothing.
use mathlib.Core.Path.{ap}
use native.Mathlib.Omega.{arith}
use lib.ListN.{drop_of_length-le}
use Rattle.wire_spec.specs.Stuffing.{specials}
use Rattle.wire_spec.proofs.Laws.Stuffing.{length-stuffing}
use Rattle.wire.proofs.stuffing.stuffed_length.Goals as goal

pub returns : goal.returns
unfolding specials
returns c =
    let content = c.args.content.now in
    omega (arith, ap specials (drop_of_length-le content c.loop-byte-test.false), length-stuffing content)
