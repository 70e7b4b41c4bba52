-- Demand 2 for the reader: over any calls in a row, what it sends is what is due, and a repeat sends what is stored and changes nothing.
-- Assumes nothing.
use mathlib.Core.Path.{◌≡◌, refl, sym, ap, subst, subst⁻¹, ◌∙◌}
use mathlib.Core.Bool.{Bool, true, false, cond, not, ◌&&◌, true≢false, false≢true, and-false, and-eq-true_iff}
use mathlib.Core.List.{List}
use mathlib.Core.Option.{Option, none, some}
use Prim.Native.Nat.{ℕ}
use native.Mathlib.Omega.{arith}
use lib.Dec.{eqb}
use lib.ListN.{length, take}
use borrow.Author.Tests.{eqb-false}
use Rattle.std.specs.Prelude.{Result, Ok, Err}
use Rattle.ground.specs.declared.refusal.Refusal.{Refusal}
use Rattle.ground.specs.Refusals.{number}
use Rattle.ground.proofs.Laws.Choice.{cond-elim, by-test}
use Rattle.link_spec.specs.Events.{FRAME, CHECK}
use Rattle.request_spec.specs.declared.command.Command.{Command}
use Rattle.request_spec.specs.declared.command.Fault.{Fault}
use Rattle.request_spec.specs.Acceptance.{is_accepted}
use Rattle.request_spec.specs.Replies.{NACK, sign, wrong_check, identifier_of, command_of, data_of}
use Rattle.reader_spec.specs.declared.reader.Asking.{Asking}
use Rattle.reader_spec.specs.declared.reader.Asking.TheVariants.{Nothing, Wrong, Right}
use Rattle.reader_spec.specs.declared.reader.Reader.{Reader}
use Rattle.reader_spec.specs.State.{State, state_of, fresh_state, bad_state}
use Rattle.reader_spec.specs.Asking.{asking}
use Rattle.reader_spec.specs.Replies.{reply_image, reply_to}
use Rattle.reader_spec.specs.Sending.{sent}
use Rattle.reader_spec.specs.Answering.{PoweredOn, powering, powered_on, Input, Answered, LentWell, executed, judged, stepped}
use Rattle.reader_spec.specs.Sessions.{Execution, image_of, History, begun, powered_by, repeats, is_frame, bytes_of, repeats_last, asks_for, served_of, judged_history, next_history_as, next_history, next_history_by, judged_reply, to_send, is_repeat, is_executed, remembers, Call, reader_after, outcome, Done, bytes_sent, ReaderSession, begins, powered, called, made_fast}
use Rattle.reader_spec.specs.Promises.{Recalls}
use Rattle.reader_spec.proofs.Laws.Speeds.{served-was}
use Rattle.reader_spec.proofs.Laws.State.{reader_with, state-back}
use Rattle.reader_spec.proofs.Laws.Answering.{powers-on, row-elim}
use Rattle.reader_spec.proofs.Laws.Sending.{sent-store}
use Rattle.reader_spec.proofs.Laws.Agreeing.{Fits, image-room, recalled_as, framed-told, Agrees, agrees-fresh, agrees-powered, agrees-good, agrees-lent, step-agrees}

-- ---- every call of a session

-- what a call leaves and sends
record Follows (alone : Bool) (h : History) (i : Input) (a : Answered) : Type 0 where
  agrees : Agrees alone a.state a.left.store (next_history_by h i a.refusal)
  sends : a.refusal ≡ 0 → (is_repeat h i ≡ true → alone ≡ true) → sent a.buffer a.length a.left ≡ to_send h i

call-follows : {alone : Bool} {h : History} {s : Reader} {held : List ℕ} → Agrees alone (state_of s) held h → (c : Call alone h s held)
    → Follows alone h c.input (outcome c)
call-follows {alone} {h} {s} a c =
    let i = c.input in
    let lent = agrees-lent alone a c.kept in
    subst⁻¹ (Follows alone h i) c.says
    (row-elim (state_of s) i c.lent (Follows alone h i)
    (λ why bad. record { agrees = rw bad lent; sends = λ done. absurd (eqb-false (number why) 0 bad done) })
    (λ well fine. let t = step-agrees alone (state_of s) i c.lent c.whole well (asking i.event) h lent in
    let a' = stepped (state_of s) i c.lent (asking i.event) in
    record {
      agrees = subst⁻¹ (λ (n : ℕ). Agrees alone a'.state a'.left.store (next_history_by h i n)) t.none t.agrees;
      sends = λ _ own. t.sends own;
    }))

pub session-agrees : {alone : Bool} {s : Reader} {held : List ℕ} {h : History} → ReaderSession alone s held h
    → Agrees alone (state_of s) held h
session-agrees {alone} (begins r store fast is) =
    subst⁻¹ (λ (s : State). Agrees alone s store (begun fast)) is (agrees-fresh alone store fast)
session-agrees {alone} {held = held} (powered {s} {h = h} se r says) =
    let a = session-agrees se in
    subst⁻¹ (λ (p : PoweredOn). Agrees alone p.state held (powered_by h p.refusal)) (says ∙ powers-on (state_of s) (agrees-good a))
    (agrees-powered a)
session-agrees (called se c) = (call-follows (session-agrees se) c).agrees

-- what is told of whether the reader is fast stays, by each call
next-fast : (h : History) (i : Input) (n : ℕ) → (next_history_by h i n).fast ≡ h.fast
next-fast h i n = cond-elim Same (eqb n 0) (λ _. next (asking i.event)) (λ _. refl)
  where
    Same : History → Type 0
    Same k = k.fast ≡ h.fast

    judged-fast : (k : Result Command Fault) → Same (judged_history h i k)
    judged-fast (Ok command) = refl
    judged-fast (Err fault) = refl

    next : (asked : Asking) → Same (next_history_as h i asked)
    next Nothing = refl
    next Wrong = refl
    next Right = cond-elim Same (repeats_last h i) (λ _. refl) (λ _. judged-fast (served_of h i))

-- so it is as the reader was made, in what is told and in its record
pub told-made : {alone : Bool} {s : Reader} {held : List ℕ} {h : History} (se : ReaderSession alone s held h) → h.fast ≡ made_fast se
unfolding made_fast
told-made (begins r store fast is) = refl
told-made (powered {s} {h = h} se r says) =
    cond-elim (λ (k : History). k.fast ≡ h.fast) (eqb (powering s r).refusal 0) (λ _. refl) (λ _. refl) ∙ told-made se
told-made (called {h = h} se c) = next-fast h c.input ((outcome c).refusal) ∙ told-made se

pub made-fast : {alone : Bool} {s : Reader} {held : List ℕ} {h : History} (se : ReaderSession alone s held h) → s.fast ≡ made_fast se
made-fast se = (session-agrees se).fast ∙ told-made se

-- a call in which nobody else wrote to the store is one in which somebody may have
abbrev pub loose-call : {alone : Bool} {h : History} {s : Reader} {held : List ℕ} → Call alone h s held → Call false h s held
loose-call c =
    record { input = c.input; lent = c.lent; answer = c.answer; left = c.left; kept = tt; whole = c.whole; says = c.says }

-- a session begins with a fresh reader
pub fresh-session : {alone : Bool} (store : List ℕ) (fast : Bool) → ReaderSession alone (reader_with (fresh_state fast)) store (begun fast)
fresh-session store fast = begins (reader_with (fresh_state fast)) store fast (state-back (fresh_state fast))

-- the speed is one that the reader has and the remembered length at most 130 in every state that is reached: no call finds a bad state
pub session-good : {alone : Bool} {s : Reader} {held : List ℕ} {h : History} → ReaderSession alone s held h → bad_state (state_of s) ≡ false
session-good se = agrees-good (session-agrees se)

-- nor does a power-on
pub power-fine : {alone : Bool} {s : Reader} {held : List ℕ} {h : History} → ReaderSession alone s held h → (r : Result Reader Refusal)
    → powering s r ≡ powered_on (state_of s)
    → (powering s r).refusal ≡ 0
power-fine {s = s} se r says = ap (λ (p : PoweredOn). p.refusal) (says ∙ powers-on (state_of s) (session-good se))

module _ {alone : Bool} {s : Reader} {held : List ℕ} {h : History} (se : ReaderSession alone s held h) (c : Call alone h s held) (done : Done c)
  where
    -- what is sent is the whole image of the reply that is due, with the received identifier; on a repeat, if nobody else wrote to the store
    pub session-sends : (is_repeat h c.input ≡ true → alone ≡ true) → bytes_sent c ≡ to_send h c.input
    session-sends = (call-follows (session-agrees se) c).sends done

    -- a call that was not refused goes on with what is told next
    pub session-on : ReaderSession alone (reader_after c) c.left.store (next_history h c.input)
    session-on =
        subst (λ (n : ℕ). ReaderSession alone (reader_after c) c.left.store (next_history_by h c.input n)) done (called se c)

    -- to a CHECK NACK 1
    pub check-nacked : c.input.event ≡ CHECK → bytes_sent c ≡ reply_image (identifier_of c.input.content) sign (NACK wrong_check)
    check-nacked is = rw is at session-sends (λ again. absurd (true≢false (sym again)))

    -- to a FRAME that repeats nothing the reply to what it asks for, and NACK 2 or 3 where it is not accepted
    pub session-replies : {k : Result Command Fault} → c.input.event ≡ FRAME → repeats_last h c.input ≡ false → served_of h c.input ≡ k
        → bytes_sent c
        ≡ reply_image (identifier_of c.input.content) (command_of c.input.content) (judged_reply h c.input k)
    session-replies is new asked = rw (is, new, asked) at session-sends (λ again. absurd (true≢false (sym again)))

    -- it did the steps, with good buffers
    pub call-steps : outcome c ≡ stepped (state_of s) c.input c.lent (asking c.input.event)
        × LentWell c.input c.lent
    call-steps =
        subst⁻¹ P c.says
        (row-elim (state_of s) c.input c.lent P (λ why bad none. absurd (eqb-false (number why) 0 bad none)) (λ well fine none. (refl, well)))
        done
      where
        P : Answered → Type 0
        P a = a.refusal ≡ 0 → a ≡ stepped (state_of s) c.input c.lent (asking c.input.event) × LentWell c.input c.lent

    module _ (asks : asking c.input.event ≡ Right) where
      pub call-framed : outcome c
          ≡ cond (repeats_last h c.input) (recalled_as (state_of s) c.lent h.last) (judged (state_of s) c.input c.lent (served_of h c.input))
      call-framed =
          call-steps.0 ∙ ap (stepped (state_of s) c.input c.lent) asks
          ∙ framed-told (state_of s) c.input c.lent h (session-agrees se).memory (session-agrees se).fast

      -- a repeat changes no state and no byte of a buffer, and sends what the remembered bytes of the store hold at that moment
      pub repeat-stored : repeats_last h c.input ≡ true → Recalls c
      repeat-stored same = of h.last refl same (call-framed ∙ rw same)
        where
          of : (last : Option Execution) → h.last ≡ last → repeats last (identifier_of c.input.content) (command_of c.input.content) ≡ true
              → outcome c ≡ recalled_as (state_of s) c.lent h.last
              → Recalls c
          of none is same says = absurd (true≢false (sym same))
          of (some e) is same says =
              let sends = says ∙ ap (recalled_as (state_of s) c.lent) is in
              let fits = subst Fits is (session-agrees se).fits in
              record {
                state = ap (λ (a : Answered). a.state) sends;
                buffers = ap (λ (a : Answered). a.left) sends;
                sends = ap (λ (a : Answered). sent a.buffer a.length a.left) sends
                    ∙ sent-store (length (image_of e)) c.lent (omega (arith, image-room e fits, call-steps.1.1))
                    ∙ ap (λ (last : Option Execution). take (remembers last) c.lent.store) (sym is);
              }

    -- a command that is executed: the reply stands in both buffers
    module _ (does : is_executed h c.input ≡ true) where
      abbrev parts : (is_frame (asking c.input.event) ≡ true) × ((not (repeats_last h c.input) && is_accepted (served_of h c.input)) ≡ true)
      parts =
          (and-eq-true_iff (is_frame (asking c.input.event)) (not (repeats_last h c.input) && is_accepted (served_of h c.input))).0 does

      pub is-frame : asking c.input.event ≡ Right
      is-frame = of (asking c.input.event) parts.0
        where
          of : (asked : Asking) → is_frame asked ≡ true → asked ≡ Right
          of Nothing never = absurd (false≢true never)
          of Wrong never = absurd (false≢true never)
          of Right is = refl

      pub is-new : repeats_last h c.input ≡ false
      is-new =
          by-test (λ (t : Bool). not t ≡ true → t ≡ false) (repeats_last h c.input) (λ _ never. absurd (false≢true never)) (λ _ _. refl)
          ((and-eq-true_iff (not (repeats_last h c.input)) (is_accepted (served_of h c.input))).0 parts.1).0

      no-repeat : is_repeat h c.input ≡ false
      no-repeat =
          ap (λ (t : Bool). is_frame (asking c.input.event) && t) is-new ∙ and-false (is_frame (asking c.input.event))

      is-served : (command : Command) × (served_of h c.input ≡ Ok command)
      is-served =
          of (served_of h c.input) refl
          ((and-eq-true_iff (not (repeats_last h c.input)) (is_accepted (served_of h c.input))).0 parts.1).1
        where
          of : (k : Result Command Fault) → served_of h c.input ≡ k → is_accepted k ≡ true → (command : Command) × (served_of h c.input ≡ Ok command)
          of (Ok command) is fine = (command, is)
          of (Err fault) is fine = absurd (false≢true fine)

      -- so the reader does what it may be asked for
      pub served-asked : served_of h c.input ≡ asks_for c.input
      served-asked = is-served.1 ∙ sym (served-was h.fast (data_of c.input.content) (asks_for c.input) is-served.1).0

      pub is-accepted : (command : Command) × (asks_for c.input ≡ Ok command)
      is-accepted = (is-served.0, sym served-asked ∙ is-served.1)

      pub call-executed : {command : Command} → asks_for c.input ≡ Ok command
          → outcome c ≡ executed (state_of s) c.input c.lent command
      call-executed asked = call-framed is-frame ∙ rw (is-new, served-asked ∙ asked)

      -- and its reply is sent
      pub executed-sends : {command : Command} → asks_for c.input ≡ Ok command
          → bytes_sent c ≡ bytes_of c.input.content (some (reply_to h.value command c.input.header c.input.antenna))
      executed-sends asked =
          let sends : bytes_sent c ≡ to_send h c.input = session-sends (λ again. absurd (true≢false (sym again ∙ no-repeat))) in
          rw (is-frame, is-new, served-asked ∙ asked) at sends
