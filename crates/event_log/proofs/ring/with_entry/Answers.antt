-- `ring::with_entry`: the numbers of a good log are within their limits, so the body is laid into its place of the ring, and each other field is as its function answers.
-- Assumes nothing.
use mathlib.Core.Path.{◌≡◌, ap, ◌∙◌}
use native.Mathlib.Omega.{arith}
use Prim.Native.Nat.{ℕ, ◌+◌, ◌-◌, ◌%◌}
use lib.ListN.{length}
use borrow.Rule.Slice.PartMut.{put_mid}
use Rattle.event_log_spec.specs.Limits.{body_length, identifiers}
use Rattle.ground.specs.Laying.{laid}
use Rattle.ground.proofs.Laws.Laying.{laid-piece}
use borrow.Author.Rules.{rules}
use Rattle.event_log.proofs.ring.with_entry.Goals as goal

pub returns : goal.returns
returns c =
    let log = c.args.log in
    let body = c.args.body in
    let at = c.body_start-at.result in
    let there = c.body_start-at.ensures in
    let sized : length c.args.log.bodies ≡ 1024 = omega arith in
    let whole : length body ≡ body_length = search rules in
    let lies : put_mid at (at + body_length - at) log.bodies c.copy_from_slice.new.self ≡ laid log.bodies at body =
    rw c.copy_from_slice.ensures.after (rw whole at (laid-piece log.bodies at body (omega (arith, sized, whole, there)))) in
    λ i. record {
      bodies = (lies ∙ ap (λ (k : ℕ). laid log.bodies k body) there) i;
      start = c.start_after.ensures i;
      held = c.one_more.ensures i;
      waiting = c.one_more-2.ensures i;
      next = (log.next + 1) % identifiers;
    }
