-- `writer::write_request`: what `accept` answers is what is accepted, and data that is accepted is short enough for a frame, so only the
-- room is left to refuse.
-- Assumes nothing.
use mathlib.Core.Path.{◌∙◌}
use Rattle.request_spec.specs.Acceptance.{acceptance}
use Rattle.request_spec.proofs.Laws.Acceptance.{judged-as}
use Rattle.request_spec.proofs.Laws.Requesting.{request-written}
use Rattle.request.proofs.writer.write_request.Goals as goal

pub returns : goal.returns
returns c =
    let a = c.args in
    c.write_point.ensures
    ∙ request-written a.identifier a.code a.«data».now a.out.now
    (judged-as (acceptance a.code a.«data».now) c.accept.ensures c.in_ok-accept.was)
