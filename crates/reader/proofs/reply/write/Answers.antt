-- `reply::write`: data within the limit and a buffer of the least room leave the frame writer nothing to refuse.
-- Assumes nothing.
use mathlib.Core.Path.{◌≡◌, refl, ap, ◌∙◌}
use mathlib.Core.List.{List}
use Prim.Native.Nat.{ℕ, ◌≤◌}
use native.Mathlib.Omega.{arith}
use lib.ListN.{length}
use Rattle.std.specs.Prelude.{Result, Ok, Err, IsOk}
use Rattle.ground.specs.declared.refusal.Refusal.{Refusal}
use Rattle.ground.specs.Refusals.{tally}
use Rattle.ground.proofs.Laws.Refusals.{number-some}
use Rattle.wire_spec.specs.Writing.{After, after}
use Rattle.link_spec.specs.Limits.{most_data}
use Rattle.link_spec.specs.Writers.{point_written}
use Rattle.link_spec.proofs.Laws.Writers.{point-writes}
use Rattle.reader_spec.specs.Limits.{room}
use Rattle.reader_spec.proofs.Laws.Replies.{point-room}
use Rattle.reader.proofs.Laws.Replies.{reply-put}
use Rattle.reader.proofs.reply.write.Goals as goal

not-refused : (r : Result ℕ Refusal) → (tally r).refusal ≡ 0 → IsOk r
not-refused (Ok n) e = refl
not-refused (Err why) e = absurd (number-some why e)

reply-fine : (r : Result ℕ Refusal) (identifier command : ℕ) («data» out : List ℕ) {out' : List ℕ} → length «data» ≤ most_data → room ≤ length out
    → after r out' ≡ point_written identifier command «data» out
    → IsOk r
reply-fine r identifier command «data» out fits long says =
    let content-room = point-room identifier command «data» fits in
    let written = point-writes identifier command «data» out fits (omega (arith, content-room)) in
    not-refused r (ap (λ (a : After). a.tally.refusal) (says ∙ written))

pub unwrap-requires : goal.unwrap-requires
unwrap-requires c =
    let a = c.args in
    reply-fine _ a.identifier a.command a.«data».now a.out.now c.requires.0 c.requires.1 c.write_point.ensures

pub returns : goal.returns
returns c =
    let a = c.args in
    reply-put (Ok c.unwrap.result) a.identifier a.command a.«data».now a.out.now c.requires.0 c.requires.1
    (rw c.unwrap.ensures at c.write_point.ensures)
