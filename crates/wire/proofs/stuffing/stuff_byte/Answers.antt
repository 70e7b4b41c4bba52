-- `stuffing::stuff_byte`: a byte below FD stands for itself, any other is FF and its distance from FF.
-- Assumes nothing.
use mathlib.Core.Path.{ap}
use native.Mathlib.Omega.{arith}
use lib.ListN.{length}
use Rattle.ground.proofs.Laws.Laying.{set-laid, set-two}
use Rattle.wire_spec.proofs.Laws.Stuffing.{stuffed-plain, stuffed-special}
use Rattle.wire.proofs.stuffing.stuff_byte.Goals as goal

pub returns-then-byte-lt-FIRST_SPECIAL : goal.returns-then-byte-lt-FIRST_SPECIAL
returns-then-byte-lt-FIRST_SPECIAL c =
    let plain = stuffed-plain c.args.byte c.if-byte-lt-FIRST_SPECIAL.true in
    rw plain (omega arith, set-laid _ _ _ (omega (arith, ap length plain)))

pub returns : goal.returns
returns c =
    let pair = stuffed-special c.args.byte (omega arith) (omega arith) in
    let two = ap length pair in
    rw pair (omega arith, set-two _ _ _ _ (omega arith))
