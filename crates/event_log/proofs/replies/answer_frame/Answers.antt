-- `replies::answer_frame`: the content has three bytes at least, so its fields can be read; what they ask is done, and the reply is that of `framed`.
-- Assumes nothing.
use mathlib.Core.Path.{ap, ◌∙◌}
use mathlib.Core.List.{List}
use Prim.Native.Nat.{ℕ}
use Rattle.ground.proofs.Laws.Lists.{take_rest}
use Rattle.wire_spec.specs.Writing.{putting}
use Rattle.event_log_spec.specs.declared.log.Doing.{Doing}
use Rattle.event_log_spec.specs.Doing.{doing as doing_of, waiting_after, reply_of}
use Rattle.event_log_spec.specs.Answering.{identifier_in, code_in, reply_content, framed}
use Rattle.event_log.proofs.replies.answer_frame.Goals as goal

pub returns : goal.returns
unfolding framed
returns c =
    let a = c.args in
    let log = a.log in
    let content = a.content.now in
    let done = c.doing-doing.ensures ∙ ap (λ («data» : List ℕ). doing_of (code_in content) «data» log.waiting) (take_rest content 3) in
    let replied =
    rw c.in_ok-count.was at c.write_reply.ensures
    ∙ ap (λ (d : Doing). putting (reply_content (identifier_in content) (code_in content) (reply_of log d)) a.out.now) done in
    let waiting = c.waiting_after.ensures ∙ ap (waiting_after log.held log.waiting) done in
    λ i. record {
      after = replied i;
      log = record { bodies = log.bodies; start = log.start; held = log.held; waiting = waiting i; next = log.next };
    }
