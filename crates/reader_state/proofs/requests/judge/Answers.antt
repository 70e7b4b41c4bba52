-- `requests::judge`: what is accepted, unless the reader does not do it.
-- Assumes nothing.
use Rattle.request_spec.specs.Acceptance.{acceptance}
use Rattle.request_spec.proofs.Laws.Acceptance.{accepts, fits-command, judged-as}
use Rattle.reader_state.proofs.requests.judge.Goals as goal

pub serves-requires : goal.serves-requires
serves-requires c =
    let a = c.args in
    fits-command (accepts a.code _ (judged-as (acceptance a.code _) c.accept.ensures c.in_ok-command.was))
