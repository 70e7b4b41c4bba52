-- `decimal::lay_digits`: at each turn, the digits of what is left, and after them those that stand in the text, are those asked for.
-- Assumes nothing.
use mathlib.Core.Path.{◌≡◌, ◌∙◌}
use native.Mathlib.Omega.{arith}
use lib.ListN.{length-set}
use Rattle.text.proofs.Laws.Decimal.{spelled-on, spelled-first, spelled_none}
use Rattle.text.proofs.decimal.lay_digits.Goals as goal

pub returns-then-left-eq0 : goal.returns-then-left-eq0
returns-then-left-eq0 c =
    let l = c.loop-from in record {
      within = omega arith;
      digits = spelled-first l.from l.left l.text (omega arith) (omega arith) c.if-left-eq0.true ∙ l.invariant.1;
    }

pub loop-from-preserved : goal.loop-from-preserved
loop-from-preserved c =
    let l = c.loop-from in (
      simp length-set (omega arith),
      spelled-on l.from l.left l.text (omega arith) (omega arith) c.if-left-eq0.false ∙ l.invariant.1,
    )

pub returns : goal.returns
returns c =
    let l = c.loop-from in
    let first : l.from ≡ 0 = omega arith in record {
      within = omega arith;
      digits = rw first at (spelled_none l.from l.left l.text first ∙ l.invariant.1);
    }
