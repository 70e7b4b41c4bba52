-- `sweep::keep`: at each turn, every byte so far stood for itself and was kept.
-- Assumes nothing.
use mathlib.Core.Path.{sym, subst}
use Prim.Native.Nat.{ℕ, ◌+◌, ◌-◌, ◌<◌}
use native.Mathlib.Numerals.{add-one}
use native.Mathlib.Omega.{arith}
use lib.ListN.{length, get_or, set}
use Rattle.wire_spec.specs.Image.{start}
use Rattle.link_spec.specs.Rules.{Later}
use Rattle.totals.specs.Sweeping.{Kept}
use Rattle.totals.proofs.Laws.Sweeping.{later-next, keep-more}
use Rattle.totals.proofs.sweep.keep.Goals as goal

pub loop-at-preserved : goal.loop-at-preserved
loop-at-preserved c =
    let a = c.args in
    let l = c.loop-at in
    let n = l.invariant in
    let more : a.from + (l.kept - a.count) < length a.piece.now = omega (arith, n.here) in
    let low : get_or a.piece.now l.at 0 < start = omega arith in
    let own = n.keeps a.station (c.is_address.ensures.later c.if-is_address.false) in
    record {
      here = omega (arith, n.here, own.0.least);
      keeps = λ station later. let k = n.keeps station later in (
        subst (λ (i : ℕ). Kept station a.content.now a.count a.piece.now a.from (l.kept + 1)
            (set l.content l.kept (get_or a.piece.now i 0))) (sym n.here)
            (keep-more k.0 k.1 c.if-kept-lt-MOST_CONTENT.true more (subst (λ (i : ℕ). get_or a.piece.now i 0 < start) n.here low)),
        subst (Later station) (sym (add-one l.kept)) (later-next k.1),
      );
    }
