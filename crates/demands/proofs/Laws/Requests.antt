-- A request of the paper's table is executed, unless it writes a speed that the reader has not; a code that the table does not have is answered
-- NACK 2, and data that it does not have NACK 3.
-- Assumes nothing.
use mathlib.Core.Path.{◌≡◌, refl, sym, ap, ◌∙◌}
use mathlib.Core.Bool.{Bool, true, false, ◌&&◌, true≢false, and-eq-true_iff}
use mathlib.Core.List.{List, []}
use mathlib.Core.Option.{Option, none, some}
use Prim.Native.Nat.{ℕ, ◌≤◌}
use lib.Dec.{eqb}
use lib.ListN.{length}
use borrow.Author.Tests.{eqb-true}
use Rattle.std.specs.Prelude.{Result, Ok, Err}
use Rattle.ground.proofs.Laws.Choice.{by-test}
use Rattle.link_spec.specs.Limits.{most_data}
use Rattle.link_spec.specs.Events.{Name, NONE, FRAME, CHECK, SHORT, LONG, PAIR, ADDR}
use Rattle.request_spec.specs.declared.command.Command.{Command}
use Rattle.request_spec.specs.declared.command.Fault.{Fault}
use Rattle.request_spec.specs.declared.command.Fault.TheVariants.{UnknownCode, BadData}
use Rattle.request_spec.specs.Acceptance.{is_known, acceptance, is_accepted, nack_of, Accepts}
use Rattle.request_spec.specs.Replies.{identifier_of, command_of, data_of}
use Rattle.request_spec.proofs.Laws.Acceptance.{unknown-only, unknown-code, accepts, accepted, row-known, HasRow, known-row, accepted-short}
use Rattle.reader_spec.specs.declared.reader.Asking.{Asking}
use Rattle.reader_spec.specs.declared.reader.Asking.TheVariants.{Nothing, Right}
use Rattle.reader_spec.specs.declared.reader.Reader.{Reader}
use Rattle.reader_spec.specs.Speeds.{served_as, served, WritesAbove}
use Rattle.reader_spec.specs.State.{state_of}
use Rattle.reader_spec.specs.Asking.{asking}
use Rattle.reader_spec.specs.Answering as carries
use Rattle.reader_spec.specs.Answering.{Answered, is_front, judged, CarriesContent}
use Rattle.reader_spec.specs.Sessions.{Execution, History, repeats, repeats_last, asks_for, served_of, is_frame, bytes_of, due_as, to_send, is_executed, Call, outcome, Done, bytes_sent, ReaderSession}
use Rattle.reader_spec.proofs.Laws.Speeds.{served-row, above-row, above-faulty}
use Rattle.reader_spec.proofs.Laws.Answering.{front-is, does-steps, steps-fine}
use Rattle.reader_spec.proofs.Laws.Replies.{executed-answer}
use Rattle.reader_spec.proofs.Laws.Sessions.{session-good, session-sends, session-on, check-nacked, session-replies, call-framed}
use Rattle.reader_spec.proofs.Laws.Idle.{call-keeps}
use Rattle.demands.specs.Exchanging.{Asks, RequestExecuted, RequestNacked}

-- a call of a session on a FRAME that repeats nothing, with good buffers
module _ {alone : Bool} {s : Reader} {held : List ℕ} {h : History} (se : ReaderSession alone s held h) (c : Call alone h s held)
    (identifier code : ℕ) («data» : List ℕ) (asks : Asks c identifier code «data») where
  -- what it is asked for, and that it is new, told from its input
  pub asked_is : asks_for c.input ≡ acceptance code «data»
  asked_is = ap (λ (l : List ℕ). acceptance (command_of l) (data_of l)) asks.content

  served-is : served_of h c.input ≡ served h.fast code «data»
  served-is = ap (λ (l : List ℕ). served h.fast (command_of l) (data_of l)) asks.content

  new : repeats_last h c.input ≡ false
  new = ap (λ (l : List ℕ). repeats h.last (identifier_of l) (command_of l)) asks.content ∙ of h.last refl
    where
      of : (last : Option Execution) → h.last ≡ last → repeats last identifier code ≡ false
      of none is = refl
      of (some e) is =
          by-test (λ (t : Bool). t ≡ false) (eqb e.identifier identifier && eqb e.code code)
          (λ both. let (own, same) = (and-eq-true_iff (eqb e.identifier identifier) (eqb e.code code)).0 both in
          absurd (asks.new e is (eqb-true e.identifier identifier own) (eqb-true e.code code same)))
          (λ _. refl)

  frame : asking c.input.event ≡ Right
  frame = ap asking asks.event

  -- it is not refused
  done : length «data» ≤ most_data → Done c
  done short =
      let front : is_front c.input.content ≡ true = ap is_front asks.content ∙ front-is identifier code «data» short in
      ap (λ (a : Answered). a.refusal) c.says
      ∙ ap (λ (a : Answered). a.refusal) (does-steps (state_of s) c.input c.lent (session-good se) asks.well (rw frame front))
      ∙ steps-fine (state_of s) c.input c.lent (asking c.input.event)

  executes : {k : Result Command Fault} → served h.fast code «data» ≡ k → is_executed h c.input ≡ is_accepted k
  executes asked = rw (frame, new, served-is ∙ asked) refl

  judges : {k : Result Command Fault} → served h.fast code «data» ≡ k → length «data» ≤ most_data
      → outcome c ≡ judged (state_of s) c.input c.lent k
  judges {k} asked short =
      let framed = call-framed se c (done short) frame in
      rw (new, served-is ∙ asked) at framed

  -- a request of the paper's table is executed by a reader for which it repeats nothing, so by a fresh one, if it has the speed that is written
  pub request-executed : {command : Command} → Accepts code «data» command → (h.fast ≡ false → WritesAbove code «data» → ⊥)
      → RequestExecuted c command
  request-executed {command} row few =
      let fine = done (accepted-short row) in
      let does = served-row h.fast row few in
      record {
        asked = asked_is ∙ accepted row;
        done = fine;
        executed = executes does;
        sends = session-replies se c fine asks.event new (served-is ∙ does);
        reply = executed-answer h.value command c.input.header c.input.antenna;
        goes_on = rw (frame, new, served-is ∙ does) at (session-on se c fine);
      }

  faulty-nacked : (fault : Fault) → served h.fast code «data» ≡ Err fault → length «data» ≤ most_data → RequestNacked c (nack_of fault)
  faulty-nacked fault asked short =
      let fine = done short in
      let judged = judges asked short in
      record {
        done = fine;
        idle = executes asked;
        sends = session-replies se c fine asks.event new (served-is ∙ asked);
        unchanged = record { state = ap (λ (a : Answered). a.state) judged; store = ap (λ (a : Answered). a.left.store) judged };
      }

  -- else, by a slow reader, it is answered NACK 3
  pub speed-nacked : h.fast ≡ false → WritesAbove code «data» → RequestNacked c 3
  speed-nacked slow write =
      faulty-nacked BadData (ap (λ (fast : Bool). served fast code «data») slow ∙ above-faulty write) (accepted-short (above-row write))

  -- any other, if a frame can carry it, is answered NACK 2 where no row has its code
  pub code-nacked : ((other : List ℕ) (command : Command) → Accepts code other command → ⊥) → length «data» ≤ most_data → RequestNacked c 2
  code-nacked never =
      faulty-nacked UnknownCode
      (ap (served_as h.fast «data») (unknown-code code «data» (by-test (λ (t : Bool). t ≡ false) (is_known code) (λ known. absurd (no_row (known-row code known))) (λ _. refl))))
    where
      no_row : HasRow code → ⊥
      no_row (other, command, row) = never other command row

  -- and NACK 3 where rows have its code and none its data
  pub data-nacked : (other : List ℕ) {some : Command} → Accepts code other some → ((command : Command) → Accepts code «data» command → ⊥)
      → length «data» ≤ most_data
      → RequestNacked c 3
  data-nacked other row never = faulty-nacked BadData (ap (served_as h.fast «data») (bad-data (acceptance code «data») refl))
    where
      bad-data : (k : Result Command Fault) → acceptance code «data» ≡ k → acceptance code «data» ≡ Err BadData
      bad-data (Ok command) is = absurd (never command (accepts code «data» is))
      bad-data (Err BadData) is = is
      bad-data (Err UnknownCode) is = absurd (true≢false (sym (row-known row) ∙ unknown-only code «data» is))

-- a call of a session on another event
module _ {alone : Bool} {s : Reader} {held : List ℕ} {h : History} (se : ReaderSession alone s held h) (c : Call alone h s held) (done : Done c) where
  -- CHECK gets NACK 1
  pub check-answered : c.input.event ≡ CHECK → RequestNacked c 1
  check-answered is =
      let idle : is_executed h c.input ≡ false = rw is refl in
      record { done = done; idle = idle; sends = check-nacked se c done is; unchanged = call-keeps se c (λ _. idle) }

  -- and what is neither that nor a FRAME no answer
  pub other-silent : (CarriesContent c.input.event → ⊥) → bytes_sent c ≡ []
  other-silent bare = of c.input.event refl
    where
      nothing : asking c.input.event ≡ Nothing → bytes_sent c ≡ []
      nothing is =
          let sends : bytes_sent c ≡ to_send h c.input =
          session-sends se c done
          (λ again. absurd (true≢false (sym again ∙ ap (λ (a : Asking). is_frame a && repeats_last h c.input) is))) in
          sends ∙ ap (λ (a : Asking). bytes_of c.input.content (due_as h c.input a)) is

      of : (event : Name) → c.input.event ≡ event → bytes_sent c ≡ []
      of NONE is = nothing (ap asking is)
      of FRAME is = absurd (bare (rw is carries.frame))
      of CHECK is = absurd (bare (rw is carries.check))
      of SHORT is = nothing (ap asking is)
      of LONG is = nothing (ap asking is)
      of PAIR is = nothing (ap asking is)
      of ADDR is = nothing (ap asking is)
