-- `ring::oldest_waiting`: the identifier and the body are put one after the other, and fill the array; the body is the part of the ring at its place.
-- Assumes nothing.
use mathlib.Core.Path.{◌≡◌, ap, ap₂, ◌∙◌}
use mathlib.Core.List.{List, ◌++◌, append-nil}
use native.Mathlib.Omega.{arith}
use Prim.Native.Nat.{ℕ, ◌+◌, ◌-◌}
use lib.ListN.{take, drop}
use Rattle.event_log_spec.specs.Limits.{body_length}
use Rattle.request_spec.specs.Header.{low_first}
use Rattle.event_log_spec.specs.Log.{body_at, identifier_before}
use Rattle.event_log.proofs.ring.oldest_waiting.Goals as goal

pub returns : goal.returns
unfolding body_at
returns c =
    let bodies = c.args.log.now.bodies in
    let at = c.body_start-at.result in
    let count : at + body_length - at ≡ body_length = omega arith in
    let body = append-nil (take (at + body_length - at) (drop at bodies)) ∙ ap₂ (λ (k n : ℕ). take k (drop n bodies)) count c.body_start-at.ensures in
    rw (c.copy_from_slice.ensures.after, c.copy_from_slice-2.ensures.after, c.identifier_before.ensures)
    (ap (λ (l : List ℕ). low_first (identifier_before c.args.log.now.next c.args.log.now.waiting) ++ l) body)
