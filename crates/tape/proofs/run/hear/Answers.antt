-- `run::hear`: at each turn, the bodies that are left give, from the receiver so far, what all of them give from the first; so neither the call on
-- them nor the row is refused.
-- Assumes nothing.
use mathlib.Core.Path.{◌≡◌, ap, ap₂, subst⁻¹, ◌∙◌}
use Prim.Native.Nat.{ℕ, ◌+◌, ◌-◌, ◌≤◌, ◌<◌}
use native.Mathlib.Omega.{arith}
use lib.ListN.{length, drop}
use Rattle.std.specs.Prelude.{Ok}
use Rattle.ground.specs.Laying.{Ended, put}
use Rattle.ground.proofs.Laws.Lists.{take_rest}
use Rattle.link_spec.specs.Receiving.{Said, saying, received}
use Rattle.tape_spec.specs.Limits.{most_records}
use Rattle.tape_spec.specs.Rows.{heard_row}
use Rattle.tape.specs.Running.{run_left, running}
use Rattle.tape.proofs.Laws.Running.{call_text}
use Rattle.tape.proofs.Laws.Hearing.{heard-ok, Goes, out-of-room, out-of-bodies, takes-some, takes-most, row-ok, next-call}
use Rattle.tape.proofs.run.hear.Goals as goal
use Rattle.tape.proofs.run.hear.Goals.{After-unwrap-heard}

pub unwrap-heard-requires : goal.unwrap-heard-requires
unwrap-heard-requires c = heard-ok _ _ c.receive.result c.loop-count.invariant.0.good c.receive.ensures

-- a call on the bodies from a place to the end is on all that is left
says : (c : After-unwrap-heard) → saying c.loop-count.receiver (Ok c.unwrap-heard.result)
    ≡ received c.loop-count.receiver (drop c.loop-count.count c.args.bodies.now)
says c =
    rw c.unwrap-heard.ensures at c.receive.ensures ∙ ap (received c.loop-count.receiver) (take_rest c.args.bodies.now c.loop-count.count)

-- what it took, and how many records there may be
took : (c : After-unwrap-heard) → (0 < c.unwrap-heard.result.taken)
    × (c.loop-count.count + c.unwrap-heard.result.taken ≤ length c.args.bodies.now) × (c.args.records + length c.args.bodies.now ≤ most_records)
took c =
    let goes = c.loop-count.invariant.0 in
    let n = ap (λ (d : Said). d.taken) (says c) in (
      omega (arith, n, takes-some _ _ _ _ goes c.loop-count-test.true),
      omega (arith, n, takes-most _ _ _ _ goes),
      c.requires.bodies_permitted,
    )

pub overflow_add-count : goal.overflow_add-count
overflow_add-count c = omega (arith, took (goal.at.overflow_add-count c).After-unwrap-heard)

pub overflow_sub-count : goal.overflow_sub-count
overflow_sub-count c = omega (arith, took (goal.at.overflow_sub-count c).After-unwrap-heard)

pub overflow_cast-count : goal.overflow_cast-count
overflow_cast-count c = omega (arith, took (goal.at.overflow_cast-count c).After-unwrap-heard)

pub overflow_add-records : goal.overflow_add-records
overflow_add-records c = omega (arith, took (goal.at.overflow_add-records c).After-unwrap-heard)

-- its row, which is put where there is room
row : (c : After-unwrap-heard) {e : Ended} → let l = c.loop-count in let heard = c.unwrap-heard.result in
    e ≡ put (heard_row (c.args.records + (l.count + heard.taken - 1)) c.args.line (saying heard.receiver (Ok heard))) l.out l.end
    → e ≡ put (call_text c.args.line (c.args.records + l.count) (received l.receiver (drop l.count c.args.bodies.now))) l.out l.end
row c puts =
    puts
    ∙ ap₂ (λ (n : ℕ) (s : Said). put (heard_row n c.args.line s) c.loop-count.out c.loop-count.end)
    (omega (arith, took c, ap (λ (s : Said). s.taken) (says c))) (says c)

pub unwrap-end-requires : goal.unwrap-end-requires
unwrap-end-requires c =
    row-ok _ _ _ _ c.loop-count.invariant.0 c.requires.bodies_permitted c.if-out-end-ge-LEAST_ROOM.true c.put_heard.result c.put_heard.new.out
    (row (goal.at.unwrap-end-requires c).After-unwrap-heard c.put_heard.ensures)

pub loop-count-smaller : goal.loop-count-smaller
loop-count-smaller c = omega (arith, took (goal.at.loop-count-smaller c).After-unwrap-heard)

pub loop-count-preserved : goal.loop-count-preserved
loop-count-preserved c =
    let l = c.loop-count in
    let a = c.args in
    let heard = (goal.at.loop-count-preserved c).After-unwrap-heard in (
      subst⁻¹ (λ (s : Said). Goes a.line a.records a.bodies.now
          (run_left (running (length a.out.now - a.at) a.line a.records a.receiver a.bodies.now) a.out.now a.at)
          c.put_heard.new.out s.receiver (l.count + s.taken) c.unwrap-end.result) (says heard)
          (next-call _ _ _ _ l.invariant.0 c.requires.bodies_permitted c.if-out-end-ge-LEAST_ROOM.true
          (row heard (rw c.unwrap-end.ensures at c.put_heard.ensures))),
      c.put_heard.auto.out ∙ l.invariant.1,
    )

pub returns-else-out-end-ge-LEAST_ROOM : goal.returns-else-out-end-ge-LEAST_ROOM
returns-else-out-end-ge-LEAST_ROOM c = out-of-room _ _ _ _ c.loop-count.invariant.0 c.if-out-end-ge-LEAST_ROOM.false

pub returns-after-loop-count : goal.returns-after-loop-count
returns-after-loop-count c = out-of-bodies _ _ _ _ c.loop-count.invariant.0 c.loop-count-test.false
