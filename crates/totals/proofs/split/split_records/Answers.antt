-- `split::split_records`: at each turn, what is left of the part gives, after the bytes so far, what all of it gives.
-- Assumes nothing.
use mathlib.Core.Path.{◌≡◌, sym, ap, ◌∙◌}
use mathlib.Core.Logic.{⊎_elim}
use Prim.Native.Nat.{◌+◌, ◌*◌}
use native.Mathlib.Omega.{arith}
use lib.ListN.{take, drop, get_or, length-set}
use Rattle.std.proofs.lemmas.Bool.{cases_lt}
use Rattle.tape_spec.specs.declared.tape.Next.{Next}
use Rattle.tape_spec.specs.Limits.{most_records}
use Rattle.tape_spec.specs.Taping.{after_kind}
use Rattle.tape_spec.proofs.Laws.Coming.{coming-after}
use Rattle.tape_spec.proofs.Laws.Unique.{same-coming}
use Rattle.totals_spec.specs.Adding.{chunk_of}
use Rattle.totals_spec.proofs.Laws.Chunks.{no_record, chunk-over}
use Rattle.totals.specs.Splitting.{pieces}
use Rattle.totals.proofs.Laws.Splitting.{over-full, over-unknown, none_left, at-end, at-kind, point-more, addressed-more}
use Rattle.totals.proofs.split.split_records.Goals as goal
use Rattle.totals.proofs.split.split_records.Goals.{then-kind-point_kind, else-kind-point_kind+then-kind-addressed_kind}
use Rattle.totals.proofs.split.split_records.Goals.{else-loop-count-test, then-loop-count-test+else-kind-point_kind+else-kind-addressed_kind}

pub loop-count-preserved : goal.loop-count-preserved
loop-count-preserved c =
    let l = c.loop-count in
    let b = get_or c.args.rest.now (2 * l.count + 1) 0 in
    elim c.if-kind-point_kind.branch [
      | then-kind-point_kind w ↦ rw (w.point-is, w.addressed-is, w.on_point-is, w.on_addressed-is) (
        point-more _ _ _ l.invariant.0 (omega arith) (omega arith) (w.if-kind-point_kind.true ∙ c.kind_of-point_kind.ensures),
        omega arith,
        length-set l.point l.on_point b ∙ l.invariant.2,
        l.invariant.3,
      )
      | else-kind-point_kind+then-kind-addressed_kind w ↦ rw (w.point-is, w.addressed-is, w.on_point-is, w.on_addressed-is) (
        addressed-more _ _ _ l.invariant.0 (omega arith) (omega arith) (w.if-kind-addressed_kind.true ∙ c.kind_of-addressed_kind.ensures),
        omega arith,
        l.invariant.2,
        length-set l.addressed l.on_addressed b ∙ l.invariant.3,
      )
    ]

-- the kind that is left: nothing stands after it, no record more is permitted, or it is unknown
pub returns-then-count-rest-clause-heard : goal.returns-then-count-rest-clause-heard
returns-then-count-rest-clause-heard c =
    let l = c.loop-count in
    let n = c.args.records + l.count in
    let k = get_or c.args.rest.now (2 * l.count) 0 in
    let after = drop (2 * l.count + 1) c.args.rest.now in
    let no-further : chunk_of n (after_kind n k) after ≡ no_record (after_kind n k) =
    elim c.loop-count-test.branch [
      | else-loop-count-test w ↦ ⊎_elim
          (λ few. none_left n (after_kind n k) c.args.rest.now (2 * l.count + 1) (omega arith))
          (λ most. chunk-over after n (after_kind n k) (over-full n k (omega arith)))
          (cases_lt n most_records)
      | then-loop-count-test+else-kind-point_kind+else-kind-addressed_kind w ↦ chunk-over after n (after_kind n k)
          (over-unknown n k (omega arith) (λ x. w.if-kind-point_kind.false (x ∙ sym c.kind_of-point_kind.ensures))
          (λ x. w.if-kind-addressed_kind.false (x ∙ sym c.kind_of-addressed_kind.ensures)))
    ] in
    ap (λ (x : Next). pieces n x (take l.on_point l.point) (take l.on_addressed l.addressed))
    (same-coming c.after_kind-next.ensures (coming-after n k))
    ∙ at-kind _ _ _ l.invariant.0 c.if-count-rest.true no-further

pub returns-else-count-rest-clause-heard : goal.returns-else-count-rest-clause-heard
returns-else-count-rest-clause-heard c = at-end _ _ _ c.loop-count.invariant.0 c.if-count-rest.false
