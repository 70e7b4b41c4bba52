-- `chunk::go`: at each turn, what is left of the chunk gives, from the tape so far, what the whole chunk gives; the loop ends where `going`
-- stops.
-- Assumes nothing.
use mathlib.Core.Path.{◌≡◌, ap, subst, subst⁻¹, ◌∙◌}
use mathlib.Core.Logic.{⊎_elim}
use mathlib.Core.List.{List}
use Prim.Native.Nat.{ℕ, ◌+◌, ◌*◌, ◌-◌, ◌≤◌}
use native.Mathlib.Omega.{arith}
use lib.ListN.{length, take, drop, get_or}
use Rattle.ground.proofs.Laws.Lists.{take_rest}
use Rattle.link_spec.specs.declared.receiver.Receiver.{Receiver}
use Rattle.tape_spec.specs.declared.tape.Line.{Line}
use Rattle.tape_spec.specs.Limits.{least_room, most_records}
use Rattle.tape_spec.specs.declared.tape.Receivers.{Receivers}
use Rattle.tape_spec.specs.declared.tape.Next.{Next}
use Rattle.tape_spec.specs.declared.tape.Next.TheVariants.{Kind, Body}
use Rattle.tape_spec.specs.declared.tape.Tape.{Tape}
use Rattle.tape_spec.specs.Whole.{receiver_on, with_receiver}
use Rattle.tape_spec.specs.Taping.{tape_of, is_over, ListedOut}
use Rattle.tape_spec.proofs.Laws.Coming.{coming-after}
use Rattle.tape_spec.proofs.Laws.Unique.{same-coming}
use Rattle.tape.specs.Running.{RunHeard, Left}
use Rattle.tape.proofs.Laws.Chunks.{Goes, at-end, out-of-room, at_last, next-kind, next-run, run-some}
use Rattle.tape.proofs.chunk.go.Invariants.{asked}
use Rattle.tape.proofs.chunk.go.Goals as goal
use Rattle.tape.proofs.chunk.go.Goals.{After-run-ran}

pub loop-taken-preserved-in-Kind : goal.loop-taken-preserved-in-Kind
loop-taken-preserved-in-Kind c =
    let l = c.loop-taken in
    let a = c.args in
    let goes : Next → ℕ → Type 0 = λ x n. Goes a.chunk.now (asked a.chunk.now a.tape a.out.now) l.out
    (tape_of l.tape.records x l.tape.receivers) n l.written in (
      subst⁻¹ (λ (x : Next). goes x (l.taken + 1))
          (same-coming c.after_kind-tape.ensures (coming-after l.tape.records (get_or a.chunk.now l.taken 0)))
          (next-kind _ _ c.if-out-written-ge-LEAST_ROOM.true c.loop-taken-test.true
          (subst (λ (x : Next). goes x l.taken) c.in-Kind.is l.invariant.0)),
      l.invariant.1,
      l.invariant.2,
    )

-- a body is next, and a run was heard of the chunk from there to its end
module _
    {chunk out : List ℕ} {all : ListedOut} {t : Tape} {taken written : ℕ} {line : Line} {s : Receiver}
    {after : Left} (goes : Goes chunk all out t taken written) (body : t.next ≡ Body line)
    (roomy : least_room ≤ length out - written) (on : s ≡ receiver_on line t.receivers)
    (ran : RunHeard line s t.records (take (length chunk - taken) (drop taken chunk)) out written after) where
  body-next : Goes chunk all out (tape_of t.records (Body line) t.receivers) taken written
  body-next = subst (λ (x : Next). Goes chunk all out (tape_of t.records x t.receivers) taken written) body goes

  -- what was heard, of the receiver that the tape holds and of all that is left
  heard : RunHeard line (receiver_on line t.receivers) t.records (drop taken chunk) out written after
  heard =
      subst (λ (x : List ℕ). RunHeard line (receiver_on line t.receivers) t.records x out written after) (take_rest chunk taken)
      (subst (λ (x : Receiver). RunHeard line x t.records (take (length chunk - taken) (drop taken chunk)) out written after) on ran)

  -- after it a kind is next again
  kind-next : Goes chunk all after.out (tape_of (t.records + after.count) Kind (with_receiver line after.receiver t.receivers))
      (taken + (2 * after.count - 1)) after.end
  kind-next = next-run _ _ roomy body-next heard

  -- some records were taken, not more than are permitted and not beyond the chunk
  takes : (1 ≤ after.count) × (t.records + after.count ≤ most_records) × (taken + (2 * after.count - 1) ≤ length chunk)
  takes = (run-some _ _ roomy body-next heard, kind-next.few, kind-next.part)

-- the same, where the run has been heard
ran : (c : After-run-ran) → (1 ≤ c.run-ran.result.count) × (c.loop-taken.tape.records + c.run-ran.result.count ≤ most_records)
    × (c.loop-taken.taken + (2 * c.run-ran.result.count - 1) ≤ length c.args.chunk.now)
ran c = takes c.loop-taken.invariant.0 c.in-Body.is c.if-out-written-ge-LEAST_ROOM.true c.receiver_on-receiver.ensures c.run-ran.ensures

pub overflow_cast-tape : goal.overflow_cast-tape
overflow_cast-tape c = omega (arith, ran (goal.at.overflow_cast-tape c).After-run-ran)

pub overflow_add-tape : goal.overflow_add-tape
overflow_add-tape c = omega (arith, ran (goal.at.overflow_add-tape c).After-run-ran)

pub overflow_mul-taken : goal.overflow_mul-taken
overflow_mul-taken c = omega (arith, ran (goal.at.overflow_mul-taken c).After-run-ran)

pub overflow_sub-taken : goal.overflow_sub-taken
overflow_sub-taken c = omega (arith, ran (goal.at.overflow_sub-taken c).After-run-ran)

pub overflow_add-taken-in-Body : goal.overflow_add-taken-in-Body
overflow_add-taken-in-Body c = omega (arith, ran (goal.at.overflow_add-taken-in-Body c).After-run-ran)

pub loop-taken-smaller : goal.loop-taken-smaller
loop-taken-smaller c = omega (arith, ran (goal.at.loop-taken-smaller c).After-run-ran)

pub loop-taken-preserved : goal.loop-taken-preserved
loop-taken-preserved c =
    let l = c.loop-taken in
    let a = c.args in
    let q = c.run-ran.result in (
      subst⁻¹ (λ (x : Receivers). Goes a.chunk.now (asked a.chunk.now a.tape a.out.now) c.run-ran.new.out
          (tape_of (l.tape.records + q.count) Kind x) (l.taken + (2 * q.count - 1)) q.end) c.set_receiver.ensures
          (kind-next l.invariant.0 c.in-Body.is c.if-out-written-ge-LEAST_ROOM.true c.receiver_on-receiver.ensures c.run-ran.ensures),
      c.run-ran.auto.out ∙ l.invariant.1,
      c.run-ran.auto.piece ∙ l.invariant.2,
    )

pub returns-after-loop-taken : goal.returns-after-loop-taken
returns-after-loop-taken c = at-end _ _ c.loop-taken.invariant.0 c.loop-taken-test.false

pub returns-else-out-written-ge-LEAST_ROOM : goal.returns-else-out-written-ge-LEAST_ROOM
returns-else-out-written-ge-LEAST_ROOM c = out-of-room _ _ c.loop-taken.invariant.0 c.if-out-written-ge-LEAST_ROOM.false

pub returns-in-Bad : goal.returns-in-Bad
returns-in-Bad c = at_last _ _ c.loop-taken.invariant.0 (⊎_elim (ap is_over) (ap is_over) c.in-Bad.is)
