-- `notice::put_words`: there is room for the carriage return, the number and the letters after it, so none of them is refused.
-- Assumes nothing.
use mathlib.Core.Path.{sym, ap, ◌∙◌}
use mathlib.Core.List.{[], ◌∷◌}
use Prim.Native.Nat.{zero-le}
use native.Mathlib.Omega.{arith}
use Rattle.ground.specs.Laying.{Ended}
use Rattle.ground.proofs.Laws.Laying.{laid-front, last, then, puts-placed, puts-some}
use Rattle.ground.proofs.Laws.Unique.{out-ended}
use Rattle.text.specs.Ascii.{ascii}
use Rattle.text.specs.Decimal.{decimal}
use Rattle.text.proofs.Laws.Decimal.{length_digits}
use Rattle.progress.specs.Notice.{carriage_return, words}
use Rattle.progress.proofs.Laws.Notice.{words-within}
use Rattle.progress.proofs.notice.put_words.Goals as goal

pub returns-in_err-begun : goal.returns-in_err-begun
returns-in_err-begun c = absurd (puts-some c.in_err-begun.field-0.0 (last c.in_err-begun.ensures) zero-le (omega arith))

pub returns-in_err-counted : goal.returns-in_err-counted
returns-in_err-counted c =
    let read = c.args.read in
    absurd (puts-some c.in_err-counted.field-0.0 (then (carriage_return ∷ []) _ c.in_ok-begun.ensures (last {x = decimal read} c.in_err-counted.ensures)) zero-le
    (omega (arith, length_digits read)))

pub returns : goal.returns
unfolding words ascii
returns c =
    let a = c.args in
    sym (out-ended _ c.put-2.result c.put-2.new.out)
    ∙ ap (λ (e : Ended). e.out)
    (puts-placed
    (then (carriage_return ∷ []) _ c.in_ok-begun.ensures (then (decimal a.read) _ c.in_ok-counted.ensures (last c.put-2.ensures)))
    zero-le
    (omega (arith, words-within a.read)))
    ∙ laid-front a.text.now (carriage_return ∷ words a.read)
