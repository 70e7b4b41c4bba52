-- What the call that answers an event does, by the rows of its table, and its refusals.
-- Assumes nothing.
use mathlib.Core.Path.{◌≡◌, refl, sym, subst⁻¹, ◌∙◌}
use mathlib.Core.Bool.{Bool, true, false, ◌&&◌, and-false, true≢false}
use mathlib.Core.List.{List, ◌∷◌}
use Prim.Native.Nat.{ℕ, ◌≤◌, ◌<◌}
use native.Mathlib.Omega.{arith}
use lib.Dec.{ltb, leb}
use lib.ListN.{length}
use borrow.Author.Tests.{ltb-true, ltb-false, lt-ltb, le-ltb, leb-false, lt-leb}
use Rattle.ground.specs.declared.refusal.Refusal.{Refusal}
use Rattle.ground.specs.declared.refusal.Refusal.TheVariants.{NoRoom, BadState as BAD, BadRequest}
use Rattle.ground.specs.Refusals.{Keeps, AnswersOnly}
use Rattle.ground.proofs.Laws.Choice.{cond-elim, by-test, between_is}
use Rattle.link_spec.specs.Limits.{most_data}
use Rattle.link_spec.specs.Events.{Name, NONE, FRAME, CHECK, SHORT, LONG, PAIR, ADDR}
use Rattle.event_log_spec.specs.declared.log.Log.{Log}
use Rattle.event_log_spec.specs.Limits.{room, least_front, most_front}
use Rattle.event_log_spec.specs.Log.{bad_log, BadLog}
use Rattle.event_log_spec.specs.Doing.{doing}
use Rattle.event_log_spec.specs.Answering.{Input, code_in, data_after, is_frame, is_front, Answering, not_answered, silent, does, framed, heard_as, answered_to, Unfit, short, long, LogTable, state, no_room, request, others, frame}
use Rattle.event_log_spec.proofs.Laws.Log.{bad-log, bad-row, good-log, no_row}

-- ---- row 5, both ways: a content that does not fit

unfit-is : {content : List ℕ} → Unfit content → is_front content ≡ false
unfit-is {content} (short few) = rw (lt-leb least_front (length content) few)
unfit-is {content} (long many) = rw (lt-leb (length content) most_front many) (and-false (leb least_front (length content)))

unfit-row : (content : List ℕ) → is_front content ≡ false → Unfit content
unfit-row content =
    by-test (λ (t : Bool). (t && leb (length content) most_front) ≡ false → Unfit content) (leb least_front (length content))
    (λ _ f. long (leb-false (length content) most_front f)) (λ f _. short (leb-false least_front (length content) f))

pub none-unfit : (content : List ℕ) → (Unfit content → ⊥) → is_front content ≡ true
none-unfit content fit =
    by-test (λ (t : Bool). is_front content ≡ t → t ≡ true) (is_front content) (λ _ _. refl) (λ _ bad. absurd (fit (unfit-row content bad))) refl

-- an address, an identifier, a command and data within the limit are a content that is not refused
pub front-is : (address identifier code : ℕ) («data» : List ℕ) → length «data» ≤ most_data → is_front (address ∷ identifier ∷ code ∷ «data») ≡ true
front-is address identifier code «data» few =
    between_is least_front most_front (length (address ∷ identifier ∷ code ∷ «data»)) (omega arith) (omega arith)

-- ---- only a FRAME is answered

frame_is : (event : Name) → is_frame event ≡ true → event ≡ FRAME
frame_is NONE never = cc
frame_is FRAME is = refl
frame_is CHECK never = cc
frame_is SHORT never = cc
frame_is LONG never = cc
frame_is PAIR never = cc
frame_is ADDR never = cc

pub no-frame : (event : Name) → (event ≡ FRAME → ⊥) → is_frame event ≡ false
no-frame event other =
    by-test (λ (t : Bool). is_frame event ≡ t → t ≡ false) (is_frame event) (λ _ is. absurd (other (frame_is event is))) (λ _ _. refl) refl

-- ---- the rows

module _ (log : Log) (i : Input) (out : List ℕ) where
  refuses-state : BadLog log → answered_to log i out ≡ not_answered log i out BAD
  unfolding answered_to
  refuses-state bad = rw (bad-log bad)

  refuses-room : bad_log log ≡ false → length out < room → answered_to log i out ≡ not_answered log i out NoRoom
  unfolding answered_to
  refuses-room good few = rw (good, lt-ltb (length out) room few)

  -- with a good log and room the event decides
  pub by-event : bad_log log ≡ false → room ≤ length out → answered_to log i out ≡ heard_as log i out (is_frame i.event)
  unfolding answered_to
  by-event good enough = rw (good, le-ltb (length out) room enough)

  refuses-front : bad_log log ≡ false → room ≤ length out → i.event ≡ FRAME → Unfit i.content
      → answered_to log i out ≡ not_answered log i out BadRequest
  refuses-front good enough is bad = by-event good enough ∙ rw (is, unfit-is bad)

  pub stays-silent : bad_log log ≡ false → room ≤ length out → (i.event ≡ FRAME → ⊥) → answered_to log i out ≡ silent log i out
  stays-silent good enough other = by-event good enough ∙ rw (no-frame i.event other)

  pub does-what : bad_log log ≡ false → room ≤ length out → i.event ≡ FRAME → is_front i.content ≡ true
      → answered_to log i out ≡ does log i out (doing (code_in i.content) (data_after i.content) log.waiting)
  unfolding framed
  does-what good enough is fit = by-event good enough ∙ rw (is, fit)

  abbrev Row : Type 0
  Row = LogTable log i out (answered_to log i out)

  back : {a : Answering} → answered_to log i out ≡ a → LogTable log i out a → Row
  back = subst⁻¹ (LogTable log i out)

  pub answers-by-table : LogTable log i out (answered_to log i out)
  answers-by-table =
      by-test (λ (t : Bool). bad_log log ≡ t → Row) (bad_log log) (λ _ bad. back (refuses-state (bad-row log bad)) (state (bad-row log bad)))
      (λ _ good. by-test (λ (t : Bool). ltb (length out) room ≡ t → Row) (ltb (length out) room)
      (λ _ few. let less = ltb-true (length out) room few in back (refuses-room good less) (no_room (good-log good) less))
      (λ _ much. let enough = ltb-false (length out) room much in
      by-test (λ (t : Bool). is_frame i.event ≡ t → Row) (is_frame i.event)
      (λ _ is. by-test (λ (t : Bool). is_front i.content ≡ t → Row) (is_front i.content)
      (λ _ fit. back (does-what good enough (frame_is i.event is) fit)
      (frame (good-log good) enough (frame_is i.event is) (λ bad. true≢false (sym fit ∙ unfit-is bad))))
      (λ _ bad. back (refuses-front good enough (frame_is i.event is) (unfit-row i.content bad))
      (request (good-log good) enough (frame_is i.event is) (unfit-row i.content bad)))
      refl)
      (λ _ not. let other : i.event ≡ FRAME → ⊥ = λ is. true≢false (rw is at not) in
      back (stays-silent good enough other) (others (good-log good) enough other)) refl) refl) refl

  pub answers-only : {a : Answering} → LogTable log i out a → a ≡ answered_to log i out
  answers-only (state bad) = sym (refuses-state bad)
  answers-only (no_room good few) = sym (refuses-room (no_row log good) few)
  answers-only (request good enough is bad) = sym (refuses-front (no_row log good) enough is bad)
  answers-only (others good enough other) = sym (stays-silent (no_row log good) enough other)
  answers-only (frame good enough is fit) = sym (does-what (no_row log good) enough is (none-unfit i.content fit))

  -- ---- a refused call changes nothing, and counts nothing

  pub record Refused (a : Answering) : Type 0 where
    pub log-kept : Keeps a.after.tally.refusal log a.log
    pub out-kept : Keeps a.after.tally.refusal out a.after.out
    pub counts : AnswersOnly a.after.tally.refusal 0 a.after.tally.count

  refused-by : (why : Refusal) → Refused (not_answered log i out why)
  refused-by why = record { log-kept = λ refused. refl; out-kept = λ refused. refl; counts = λ refused. refl }

  not-refused : {a : Answering} → a.after.tally.refusal ≡ 0 → Refused a
  not-refused fine =
      record { log-kept = λ refused. absurd (refused fine); out-kept = λ refused. absurd (refused fine); counts = λ refused. absurd (refused fine) }

  pub answers-keeps : Refused (answered_to log i out)
  unfolding answered_to framed
  answers-keeps =
      cond-elim Refused (bad_log log) (λ bad. refused-by BAD)
      (λ good. cond-elim Refused (ltb (length out) room) (λ few. refused-by NoRoom)
      (λ much. cond-elim Refused (is_frame i.event)
      (λ is. cond-elim Refused (is_front i.content) (λ fit. not-refused refl) (λ bad. refused-by BadRequest)) (λ other. not-refused refl)))
