-- `replies::write_reply`: each arm writes the frame of its case of `reply_of`, which fits the room, so nothing is refused.
-- Assumes nothing.
use mathlib.Core.Path.{ap, ◌∙◌}
use mathlib.Core.List.{List}
use mathlib.Core.Logic.{⊎_elim}
use Prim.Native.Nat.{ℕ}
use Rattle.link_spec.specs.Writers.{addressed_written}
use Rattle.event_log_spec.specs.declared.log.Doing.TheVariants.{Read, Delete, Restore, Clear, Nack}
use Rattle.event_log_spec.proofs.Laws.Replies.{reply-put}
use Rattle.event_log.proofs.replies.write_reply.Goals as goal

pub returns-in-Read : goal.returns-in-Read
returns-in-Read c =
    let a = c.args in
    rw c.in-Read.is (reply-put a.log.now Read a.identifier a.code a.out.now (c.write_addressed.ensures
    ∙ ap (λ (bytes : List ℕ). addressed_written 0x00 a.identifier a.code bytes a.out.now) c.oldest_waiting.ensures) c.requires.1)

pub returns-in-Delete : goal.returns-in-Delete
returns-in-Delete c =
    let a = c.args in
    ⊎_elim (λ e. rw e (reply-put a.log.now Delete a.identifier a.code a.out.now c.write_addressed-in-Delete.ensures c.requires.1))
    (⊎_elim (λ e. rw e (reply-put a.log.now Restore a.identifier a.code a.out.now c.write_addressed-in-Delete.ensures c.requires.1))
    (λ e. rw e (reply-put a.log.now Clear a.identifier a.code a.out.now c.write_addressed-in-Delete.ensures c.requires.1)))
    c.in-Delete.is

pub returns-in-Nack : goal.returns-in-Nack
returns-in-Nack c =
    let a = c.args in
    rw c.in-Nack.is (reply-put a.log.now (Nack c.in-Nack.number) a.identifier a.code a.out.now c.write_addressed-in-Nack.ensures c.requires.1)
