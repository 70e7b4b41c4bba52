-- `steps::answer`: its tests are the rows of the refusal table, in their order; where none is met, it does the steps.
-- Assumes nothing.
use mathlib.Core.Path.{◌≡◌, refl, sym, ap, ◌∙◌}
use mathlib.Core.Bool.{true}
use mathlib.Core.Logic.{⊎_elim}
use Rattle.ground.proofs.Laws.Choice.{no-case}
use Rattle.link_spec.specs.Events.{Name, NONE, FRAME, CHECK, SHORT, LONG, PAIR, ADDR, named}
use Rattle.reader_spec.specs.declared.reader.Asking.{Asking}
use Rattle.reader_spec.specs.declared.reader.Asking.TheVariants.{Right}
use Rattle.reader_spec.specs.State.{state_of}
use Rattle.reader_spec.specs.Asking.{asking}
use Rattle.reader_spec.specs.Sending.{Buffers, buffers_of}
use Rattle.reader_spec.specs.Answering.{Input, input_of, fits, stepped, answered}
use Rattle.reader_spec.proofs.Laws.Answering.{refuses-state, refuses-store, refuses-out, refuses-antenna, refuses-request, does-steps}
use Rattle.reader.proofs.steps.answer.Goals as goal
use Rattle.reader.proofs.steps.answer.Goals.{After-fits}

-- a frame whose check is right is the only event that asks for steps 3 to 6
asks-frame : (event : Name) → asking event ≡ Right → event ≡ FRAME
asks-frame FRAME is = refl
asks-frame NONE is = no-case (cc is)
asks-frame CHECK is = no-case (cc is)
asks-frame SHORT is = no-case (cc is)
asks-frame LONG is = no-case (cc is)
asks-frame PAIR is = no-case (cc is)
asks-frame ADDR is = no-case (cc is)

abbrev given : After-fits → Input
given c = input_of (named c.args.event) c.args.content.now c.args.header c.args.antenna.now

abbrev lent : After-fits → Buffers
lent c = buffers_of c.args.store.now c.args.out.now

-- what the call does where nothing is refused
does : (c : After-fits) {asked : Asking} → c.fits.result ≡ true → c.asked_by-asking.result ≡ asked
    → answered (state_of c.args.reader) (given c) (lent c) ≡ stepped (state_of c.args.reader) (given c) (lent c) asked
does c fine is =
    does-steps (state_of c.args.reader) (given c) (lent c) (sym c.is_bad_reader.ensures ∙ c.if-is_bad_reader.false)
    (c.if-antenna-gt-MOST_ANTENNA.false, c.if-store-lt-ROOM.false, c.if-out-lt-ROOM.false)
    (ap (λ (asked : Asking). fits asked c.args.content.now) (sym c.asked_by-asking.ensures) ∙ sym c.fits.ensures ∙ fine)
    ∙ ap (stepped (state_of c.args.reader) (given c) (lent c)) (sym c.asked_by-asking.ensures ∙ is)

pub returns-then-is_bad_reader : goal.returns-then-is_bad_reader
returns-then-is_bad_reader c = sym (refuses-state _ _ _ (sym c.is_bad_reader.ensures ∙ c.if-is_bad_reader.true))

pub returns-then-store-lt-ROOM : goal.returns-then-store-lt-ROOM
returns-then-store-lt-ROOM c =
    let good = sym c.is_bad_reader.ensures ∙ c.if-is_bad_reader.false in
    ⊎_elim (λ few. sym (refuses-store _ _ _ good few)) (λ few. sym (refuses-out _ _ _ good few.0 few.1)) c.then-store-lt-ROOM.either

pub returns-then-antenna-gt-MOST_ANTENNA : goal.returns-then-antenna-gt-MOST_ANTENNA
returns-then-antenna-gt-MOST_ANTENNA c =
    sym
    (refuses-antenna _ _ _ (sym c.is_bad_reader.ensures ∙ c.if-is_bad_reader.false) c.if-store-lt-ROOM.false c.if-out-lt-ROOM.false
    c.if-antenna-gt-MOST_ANTENNA.true)

pub returns-then-not-fits : goal.returns-then-not-fits
returns-then-not-fits c =
    sym
    (refuses-request _ _ _ (sym c.is_bad_reader.ensures ∙ c.if-is_bad_reader.false)
    (c.if-antenna-gt-MOST_ANTENNA.false, c.if-store-lt-ROOM.false, c.if-out-lt-ROOM.false)
    (ap (λ (asked : Asking). fits asked c.args.content.now) (sym c.asked_by-asking.ensures) ∙ sym c.fits.ensures ∙ c.if-not-fits.true))

pub returns-in-Nothing : goal.returns-in-Nothing
returns-in-Nothing c =
    let p = (goal.at.returns-in-Nothing c).After-fits in
    rw c.sending.ensures (sym (does p c.if-not-fits.false c.in-Nothing.is))

pub returns-in-Wrong : goal.returns-in-Wrong
returns-in-Wrong c =
    let p = (goal.at.returns-in-Wrong c).After-fits in
    c.nacking.ensures c.args.store.now ∙ sym (does p c.if-not-fits.false c.in-Wrong.is)

pub returns-in-Right : goal.returns-in-Right
returns-in-Right c =
    let p = (goal.at.returns-in-Right c).After-fits in
    let frame = asks-frame (named c.args.event) (sym c.asked_by-asking.ensures ∙ c.in-Right.is) in
    rw (does p c.if-not-fits.false c.in-Right.is, frame) c.answer_frame.ensures
