-- `laying::put`: its test is that of `put`, fewer places from `at` on than bytes; where there are enough, they are copied to their places.
-- Assumes nothing.
use mathlib.Core.Path.{refl, sym, ◌∙◌}
use native.Mathlib.Omega.{arith}
use Rattle.ground.proofs.Laws.Laying.{put_refused, put-placed, placed-is, laid_none, laid-piece}
use Rattle.ground.proofs.laying.put.Goals as goal

pub returns-then-bytes-room : goal.returns-then-bytes-room
returns-then-bytes-room c =
    let a = c.args in
    sym (put_refused a.bytes.now a.out.now a.at (omega arith))

pub returns-then-bytes-gt0 : goal.returns-then-bytes-gt0
returns-then-bytes-gt0 c =
    let a = c.args in
    placed-is a.bytes.now a.out.now a.at refl (rw c.copy_from_slice.ensures.after (laid-piece a.out.now a.at a.bytes.now (omega arith)))
    ∙ sym (put-placed a.bytes.now a.out.now a.at (omega arith))

pub returns-else-bytes-gt0 : goal.returns-else-bytes-gt0
returns-else-bytes-gt0 c =
    let a = c.args in
    placed-is a.bytes.now a.out.now a.at refl (sym (laid_none a.out.now a.at a.bytes.now (omega arith)))
    ∙ sym (put-placed a.bytes.now a.out.now a.at (omega arith))
