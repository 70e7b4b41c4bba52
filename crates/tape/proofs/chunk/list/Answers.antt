-- `chunk::list`: its two tests are the rows of the refusal table, in their order, and a tape that neither names goes over its chunk.
-- Assumes nothing.
use mathlib.Core.Path.{sym, ◌∙◌}
use Rattle.tape_spec.proofs.Laws.Taping.{refuses-state, refuses-room, lists-chunk}
use Rattle.tape.proofs.chunk.list.Goals as goal

pub returns-then-is_bad_tape : goal.returns-then-is_bad_tape
returns-then-is_bad_tape c =
    let a = c.args in
    sym (refuses-state a.tape a.chunk.now a.out.now (sym c.is_bad_tape.ensures ∙ c.if-is_bad_tape.true))

pub returns-then-out-lt-LEAST_ROOM : goal.returns-then-out-lt-LEAST_ROOM
returns-then-out-lt-LEAST_ROOM c =
    let a = c.args in
    sym (refuses-room a.tape a.chunk.now a.out.now (sym c.is_bad_tape.ensures ∙ c.if-is_bad_tape.false) c.if-out-lt-LEAST_ROOM.true)

pub returns : goal.returns
returns c =
    let a = c.args in
    c.go.ensures
    ∙ sym (lists-chunk a.tape a.chunk.now a.out.now (sym c.is_bad_tape.ensures ∙ c.if-is_bad_tape.false) c.if-out-lt-LEAST_ROOM.false)
