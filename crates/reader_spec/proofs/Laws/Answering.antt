-- What a call of the reader answers, and its refusals.
-- Assumes nothing.
use mathlib.Core.Path.{◌≡◌, refl, sym, ap, subst⁻¹, ◌∙◌}
use mathlib.Core.Bool.{Bool, true, false, ◌&&◌, ◌||◌, and-false, true≢false}
use mathlib.Core.List.{List, [], ◌∷◌}
use mathlib.Core.Option.{none}
use Prim.Native.Nat.{ℕ, ◌≤◌, ◌<◌}
use native.Mathlib.Omega.{arith}
use lib.Dec.{eqb, ltb, leb}
use lib.ListN.{length, drop}
use lib.Seq.{drop-append_seam}
use borrow.Author.Tests.{ltb-true, ltb-false, lt-ltb, le-ltb, le-leb, lt-leb, leb-false}
use Rattle.std.specs.Prelude.{Option, Some, None, Result, Ok, Err}
use Rattle.ground.specs.declared.refusal.Refusal.{Refusal}
use Rattle.ground.specs.declared.refusal.Refusal.TheVariants.{NoRoom, TooLong, BadState as BAD, BadRequest}
use Rattle.ground.specs.Refusals.{number, Keeps, AnswersOnly}
use Rattle.ground.proofs.Laws.Choice.{cond-elim, or-none, by-test}
use Rattle.link_spec.specs.Limits.{most_data}
use Rattle.link_spec.specs.Events.{Name, NONE, FRAME, CHECK, SHORT, LONG, PAIR, ADDR}
use Rattle.request_spec.specs.declared.parameter.Parameter.TheVariants.{Speed}
use Rattle.request_spec.specs.declared.command.Command.{Command}
use Rattle.request_spec.specs.declared.command.Fault.{Fault}
use Rattle.request_spec.specs.Limits.{most_antenna}
use Rattle.request_spec.specs.Acceptance.{nack_of}
use Rattle.request_spec.specs.Replies.{NACK, sign, identifier_of, command_of, data_of, wrong_check}
use Rattle.reader_spec.specs.declared.reader.Asking.{Asking}
use Rattle.reader_spec.specs.declared.reader.Asking.TheVariants.{Nothing, Wrong, Right}
use Rattle.reader_spec.specs.Limits.{room, least_front, most_front}
use Rattle.reader_spec.specs.Speeds.{is_above, served}
use Rattle.reader_spec.specs.Parameters.{with_value, after_power}
use Rattle.reader_spec.specs.State.{State, state_with, find, bad_state, BadState}
use Rattle.reader_spec.specs.Asking.{asking}
use Rattle.reader_spec.specs.Replies.{reply_image}
use Rattle.reader_spec.specs.Sending.{OUT, Buffers}
use Rattle.reader_spec.specs.Answering.{PoweredOn, powered_on, PowerTable, refuses, stays, falls, Input, Answered, not_answered, nacked, reply_bytes, judged, recalled, framed, stepped, LentWell, is_front, fits, admitted, answered, CarriesContent, frame, check, Unfit, short, long, ReaderTable, state, no_store, no_out, too_long, request, steps}
use Rattle.reader_spec.proofs.Laws.Speeds.{speed-stays, speed-falls}
use Rattle.reader_spec.proofs.Laws.State.{bad-state, bad-row, good-state, no_row}

-- ---- power-on: row 4 of the refusal table, when and only then

pub refuses-power : {s : State} → BadState s → powered_on s ≡ record { refusal = number BAD; state = s }
unfolding powered_on
refuses-power bad = rw (bad-state bad)

-- and else it is that of a good reader
pub powers-on : (s : State) → bad_state s ≡ false
    → powered_on s ≡ record { refusal = 0; state = state_with (after_power s.parameters) s.fast none }
unfolding powered_on
powers-on s good = rw good

module _ (s : State) (good : bad_state s ≡ false) where
  abbrev powered_at : ℕ → PoweredOn
  powered_at v = record { refusal = 0; state = state_with (with_value s.parameters Speed (v ∷ [])) s.fast none }

  power-keeps : s.parameters.speed ≤ 7 → powered_on s ≡ powered_at s.parameters.speed
  power-keeps few = powers-on s good ∙ ap powered_at (speed-stays s.parameters.speed few)

  power-slows : 8 ≤ s.parameters.speed → powered_on s ≡ powered_at 3
  power-slows many = powers-on s good ∙ ap powered_at (speed-falls s.parameters.speed many)

pub power-by-table : (s : State) → PowerTable s (powered_on s)
power-by-table s =
    by-test (λ (t : Bool). bad_state s ≡ t → PowerTable s (powered_on s)) (bad_state s)
    (λ _ bad. subst⁻¹ (PowerTable s) (refuses-power (bad-row s bad)) (refuses (bad-row s bad)))
    (λ _ good. by-test (λ (t : Bool). is_above s.parameters.speed ≡ t → PowerTable s (powered_on s)) (is_above s.parameters.speed)
    (λ _ above. let many = ltb-true 7 s.parameters.speed above in
    subst⁻¹ (PowerTable s) (power-slows s good many) (falls (good-state good) many))
    (λ _ below. let few = ltb-false 7 s.parameters.speed below in
    subst⁻¹ (PowerTable s) (power-keeps s good few) (stays (good-state good) few)) refl) refl

pub power-only : {s : State} {p : PoweredOn} → PowerTable s p → p ≡ powered_on s
power-only (refuses bad) = sym (refuses-power bad)
power-only {s} (stays good few) = sym (power-keeps s (no_row s good) few)
power-only {s} (falls good many) = sym (power-slows s (no_row s good) many)

-- a refused one leaves the reader as before
pub powered-keeps : (s : State) → Keeps (powered_on s).refusal s (powered_on s).state
unfolding powered_on
powered-keeps s =
    cond-elim (λ (p : PoweredOn). Keeps p.refusal s p.state) (bad_state s) (λ bad refused. refl) (λ good refused. absurd (refused refl))

-- ---- steps 3 to 6, by what the memory says

pub framed-by : {k : Option ℕ} (s : State) (i : Input) (lent : Buffers)
    → find s.last (identifier_of i.content) (command_of i.content) ≡ k
    → framed s i lent ≡ recalled s i lent k
unfolding framed
framed-by s i lent found = ap (recalled s i lent) found

-- ---- row 5, both ways: a content that does not fit

front-short : (content : List ℕ) → length content < least_front → is_front content ≡ false
front-short content few = rw (lt-leb least_front (length content) few)

front_long : (content : List ℕ) → most_front < length content → is_front content ≡ false
front_long content many = rw (lt-leb (length content) most_front many, and-false (leb least_front (length content)))

carries-front : {event : Name} → CarriesContent event → (content : List ℕ) → fits (asking event) content ≡ is_front content
carries-front frame content = refl
carries-front check content = refl

unfit-is : (i : Input) → Unfit i → fits (asking i.event) i.content ≡ false
unfit-is i (short asks few) = carries-front asks i.content ∙ front-short i.content few
unfit-is i (long asks many) = carries-front asks i.content ∙ front_long i.content many

unfit-row : (i : Input) → fits (asking i.event) i.content ≡ false → Unfit i
unfit-row i = of i.event refl
  where
    front : CarriesContent i.event → is_front i.content ≡ false → Unfit i
    front asks =
        by-test (λ (t : Bool). (t && leb (length i.content) most_front) ≡ false → Unfit i) (leb least_front (length i.content))
        (λ _ f. long asks (leb-false (length i.content) most_front f))
        (λ f _. short asks (leb-false least_front (length i.content) f))

    of : (event : Name) → i.event ≡ event → fits (asking event) i.content ≡ false → Unfit i
    of NONE is bad = absurd (true≢false bad)
    of FRAME is bad = front (rw is frame) bad
    of CHECK is bad = front (rw is check) bad
    of SHORT is bad = absurd (true≢false bad)
    of LONG is bad = absurd (true≢false bad)
    of PAIR is bad = absurd (true≢false bad)
    of ADDR is bad = absurd (true≢false bad)

fit_none : (i : Input) → fits (asking i.event) i.content ≡ true → Unfit i → ⊥
fit_none i fine bad = true≢false (sym fine ∙ unfit-is i bad)

pub none-fit : (i : Input) → (Unfit i → ⊥) → fits (asking i.event) i.content ≡ true
none-fit i fit =
    by-test (λ (t : Bool). fits (asking i.event) i.content ≡ t → t ≡ true) (fits (asking i.event) i.content) (λ _ _. refl)
    (λ _ bad. absurd (fit (unfit-row i bad))) refl

-- an identifier, a command and data within the limit are a content that is not refused
pub front-is : (identifier code : ℕ) («data» : List ℕ) → length «data» ≤ most_data → is_front (identifier ∷ code ∷ «data») ≡ true
front-is identifier code «data» few =
    let n = length (identifier ∷ code ∷ «data») in
    rw (le-leb least_front n (omega arith), le-leb n most_front (omega arith))

-- ---- the rows, in their order

module _ (s : State) (i : Input) (lent : Buffers) where
  -- when
  pub refuses-state : bad_state s ≡ true → answered s i lent ≡ not_answered BAD s lent
  unfolding answered
  refuses-state bad = rw bad

  module _ (good : bad_state s ≡ false) where
    pub refuses-store : length lent.store < room → answered s i lent ≡ not_answered NoRoom s lent
    unfolding answered
    refuses-store few = rw (good, lt-ltb (length lent.store) room few)

    module _ (kept : room ≤ length lent.store) where
      pub refuses-out : length lent.out < room → answered s i lent ≡ not_answered NoRoom s lent
      unfolding answered
      refuses-out few = rw (good, le-ltb (length lent.store) room kept, lt-ltb (length lent.out) room few)

      module _ (enough : room ≤ length lent.out) where
        pub refuses-antenna : most_antenna < length i.antenna → answered s i lent ≡ not_answered TooLong s lent
        unfolding answered
        refuses-antenna over =
            rw (
              good,
              le-ltb (length lent.store) room kept,
              le-ltb (length lent.out) room enough,
              lt-ltb most_antenna (length i.antenna) over,
            )

        pub admits : length i.antenna ≤ most_antenna → answered s i lent ≡ admitted s i lent
        unfolding answered
        admits few =
            rw (
              good,
              le-ltb (length lent.store) room kept,
              le-ltb (length lent.out) room enough,
              le-ltb most_antenna (length i.antenna) few,
            )

    module _ (well : LentWell i lent) where
      pub refuses-request : fits (asking i.event) i.content ≡ false → answered s i lent ≡ not_answered BadRequest s lent
      refuses-request bad = admits well.1 well.2 well.0 ∙ rw bad

      pub does-steps : fits (asking i.event) i.content ≡ true → answered s i lent ≡ stepped s i lent (asking i.event)
      does-steps fine = admits well.1 well.2 well.0 ∙ rw fine

  -- and only then
  pub by-table : ReaderTable s i lent (answered s i lent)
  unfolding answered
  by-table =
      cond-elim P (bad_state s) (λ bad. state (bad-row s bad))
      (λ good. let good = good-state good in
      cond-elim P (ltb (length lent.store) room || ltb (length lent.out) room) (no_room good)
      (λ room-enough. let (kept, enough) = or-none (ltb (length lent.store) room) (ltb (length lent.out) room) room-enough in
      let kept = ltb-false (length lent.store) room kept in
      let enough = ltb-false (length lent.out) room enough in
      cond-elim P (ltb most_antenna (length i.antenna))
      (λ over. too_long good kept enough (ltb-true most_antenna (length i.antenna) over))
      (λ few. let well : LentWell i lent = (ltb-false most_antenna (length i.antenna) few, kept, enough) in
      cond-elim P (fits (asking i.event) i.content) (λ fine. steps good well (fit_none i fine))
      (λ bad. request good well (unfit-row i bad)))))
    where
      P : Answered → Type 0
      P = ReaderTable s i lent

      no_room : (BadState s → ⊥) → (ltb (length lent.store) room || ltb (length lent.out) room) ≡ true → P (not_answered NoRoom s lent)
      no_room good few =
          by-test (λ (t : Bool). (t || ltb (length lent.out) room) ≡ true → P (not_answered NoRoom s lent)) (ltb (length lent.store) room)
          (λ t _. no_store good (ltb-true (length lent.store) room t))
          (λ f e. no_out good (ltb-false (length lent.store) room f) (ltb-true (length lent.out) room e)) few

  -- so the table has one answer for each input
  pub table-only : {a : Answered} → ReaderTable s i lent a → a ≡ answered s i lent
  table-only (state bad) = sym (refuses-state (bad-state bad))
  table-only (no_store good few) = sym (refuses-store (no_row s good) few)
  table-only (no_out good kept few) = sym (refuses-out (no_row s good) kept few)
  table-only (too_long good kept enough over) = sym (refuses-antenna (no_row s good) kept enough over)
  table-only (request good well bad) = sym (refuses-request (no_row s good) well (unfit-is i bad))
  table-only (steps good well fit) = sym (does-steps (no_row s good) well (none-fit i fit))

  -- what holds of every refusal, and of the steps, holds of the answer
  pub row-elim : (P : Answered → Type 0) → ((why : Refusal) → eqb (number why) 0 ≡ false → P (not_answered why s lent))
      → (LentWell i lent → fits (asking i.event) i.content ≡ true → P (stepped s i lent (asking i.event)))
      → P (answered s i lent)
  row-elim P refused does = of by-table
    where
      of : {a : Answered} → ReaderTable s i lent a → P a
      of (state bad) = refused BAD refl
      of (no_store good few) = refused NoRoom refl
      of (no_out good kept few) = refused NoRoom refl
      of (too_long good kept enough over) = refused TooLong refl
      of (request good well bad) = refused BadRequest refl
      of (steps good well fit) = does well (none-fit i fit)

  -- the steps refuse nothing, and leave all bytes of both buffers after those that are sent
  record Kept (a : Answered) : Type 0 where
    none : a.refusal ≡ 0
    store : drop a.length a.left.store ≡ drop a.length lent.store
    out : drop a.length a.left.out ≡ drop a.length lent.out

  nack-kept : {t : State} (identifier n : ℕ) → Kept (nacked t identifier n lent)
  nack-kept identifier n = record { none = refl; store = refl; out = drop-append_seam (reply_image identifier sign (NACK n)) _ }

  judged-kept : (k : Result Command Fault) → Kept (judged s i lent k)
  judged-kept (Ok command) =
      record { none = refl; store = drop-append_seam (reply_bytes s i lent command) _; out = drop-append_seam (reply_bytes s i lent command) _ }
  judged-kept (Err fault) = nack-kept (identifier_of i.content) (nack_of fault)

  recalled-kept : (k : Option ℕ) → Kept (recalled s i lent k)
  recalled-kept (Some length) = record { none = refl; store = refl; out = refl }
  recalled-kept None = judged-kept (served s.fast (command_of i.content) (data_of i.content))

  step_kept : (asked : Asking) → Kept (stepped s i lent asked)
  unfolding framed
  step_kept Nothing = record { none = refl; store = refl; out = refl }
  step_kept Wrong = nack-kept (identifier_of i.content) wrong_check
  step_kept Right = recalled-kept (find s.last (identifier_of i.content) (command_of i.content))

  pub steps-fine : (asked : Asking) → (stepped s i lent asked).refusal ≡ 0
  steps-fine asked = (step_kept asked).none

  -- 4 is for a bad state, and only for that
  pub four-only : (answered s i lent).refusal ≡ number BAD → BadState s
  four-only = of by-table
    where
      of : {a : Answered} → ReaderTable s i lent a → a.refusal ≡ number BAD → BadState s
      of (state bad) is = bad
      of (no_store good few) is = absurd (omega (arith, is))
      of (no_out good kept few) is = absurd (omega (arith, is))
      of (too_long good kept enough over) is = absurd (omega (arith, is))
      of (request good well bad) is = absurd (omega (arith, is))
      of (steps good well fit) is = absurd (omega (arith, sym (steps-fine (asking i.event)) ∙ is))

  -- later bytes of both buffers stay: of any call, those after the bytes that are sent
  pub later-stay : let a = answered s i lent in
      drop a.length a.left.store ≡ drop a.length lent.store × drop a.length a.left.out ≡ drop a.length lent.out
  later-stay =
      row-elim
      (λ (a : Answered). drop a.length a.left.store ≡ drop a.length lent.store
      × drop a.length a.left.out ≡ drop a.length lent.out)
      (λ why number. (refl, refl))
      (λ well fine. let k = step_kept (asking i.event) in (k.store, k.out))

  -- a refused call leaves the reader's state and both buffers as before, and has an empty part of out to send
  pub answered-keeps : let a = answered s i lent in
      Keeps a.refusal s a.state × Keeps a.refusal lent a.left
      × AnswersOnly a.refusal OUT a.buffer × AnswersOnly a.refusal 0 a.length
  answered-keeps =
      row-elim
      (λ (a : Answered). Keeps a.refusal s a.state × Keeps a.refusal lent a.left
      × AnswersOnly a.refusal OUT a.buffer × AnswersOnly a.refusal 0 a.length)
      (λ why number. ((λ refused. refl), (λ refused. refl), (λ refused. refl), (λ refused. refl)))
      (λ well fine. let none = steps-fine (asking i.event) in (
        (λ refused. absurd (refused none)),
        (λ refused. absurd (refused none)),
        (λ refused. absurd (refused none)),
        (λ refused. absurd (refused none)),
      ))
