-- `steps::answer_frame`: the memory says whether it is step 3, and what this reader makes of code and data whether it is 4, 5 or 6.
-- Assumes nothing.
use mathlib.Core.Path.{sym, ◌∙◌}
use Rattle.std.specs.Prelude.{Some, Ok, Err}
use Rattle.ground.proofs.Laws.Lists.{take_rest}
use Rattle.request_spec.specs.Replies.{command_of}
use Rattle.request_spec.proofs.Laws.Acceptance.{judged-as}
use Rattle.reader_spec.specs.Speeds.{served}
use Rattle.reader_spec.proofs.Laws.Speeds.{served-fits}
use Rattle.reader_spec.proofs.Laws.Answering.{framed-by}
use Rattle.reader.proofs.Laws.Answering.{framed-new}
use Rattle.reader.proofs.steps.answer_frame.Goals as goal

pub returns-in-Some : goal.returns-in-Some
returns-in-Some c =
    let found = sym c.find.ensures ∙ c.in-Some.is in
    rw (c.sending.ensures, framed-by {k = Some c.in-Some.length})

pub execute-requires : goal.execute-requires
execute-requires c =
    let code = command_of c.args.content.now in (
      served-fits c.args.reader.fast code _ (judged-as (served c.args.reader.fast code _) c.judge.ensures c.in-Ok.is),
      c.requires.1,
    )

pub returns-in-Ok : goal.returns-in-Ok
returns-in-Ok c =
    let a = c.args in
    let content = a.content.now in
    let found = sym c.find.ensures ∙ c.in_default.is in
    let asked = rw (take_rest content 2) at (judged-as (served a.reader.fast (command_of content) _) c.judge.ensures c.in-Ok.is) in
    rw (framed-new {a = Ok c.in-Ok.command}) (rw (take_rest content 2) at c.execute.ensures)

pub returns-in-Err : goal.returns-in-Err
returns-in-Err c =
    let a = c.args in
    let content = a.content.now in
    let found = sym c.find.ensures ∙ c.in_default.is in
    let asked = rw (take_rest content 2) at (judged-as (served a.reader.fast (command_of content) _) c.judge.ensures c.in-Err.is) in
    rw (framed-new {a = Err c.in-Err.fault}, ← c.nack_of.ensures) (c.nacking.ensures a.store.now)
