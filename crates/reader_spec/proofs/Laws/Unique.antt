-- A call's statement leaves no choice: two results that it allows are equal. docs/STATEMENTS.md cites one of these, or one of
-- ground's or wire_spec's, for each call.
-- Assumes nothing.
use mathlib.Core.Path.{◌≡◌, refl, sym, ap, ◌∙◌}
use Rattle.std.specs.Prelude.{Result, Ok, Err}
use Rattle.ground.specs.declared.refusal.Refusal.{Refusal}
use Rattle.ground.proofs.Laws.Refusals.{number-some}
use Rattle.ground.proofs.Laws.Unique.{same, err-injective}
use Rattle.reader_spec.specs.declared.reader.Reader.{Reader}
use Rattle.reader_spec.specs.declared.reader.Answer.{Answer}
use Rattle.reader_spec.specs.State.{State, state_of}
use Rattle.reader_spec.specs.Sending.{Buffers}
use Rattle.reader_spec.specs.Answering.{refusal_of, PoweredOn, powering, Input, Answered, answer_says, Answers}
use Rattle.reader_spec.proofs.Laws.State.{state-injective}
use Rattle.reader_spec.proofs.Laws.Sending.{buffer-injective}

-- two results are equal that have one refusal, or answers that are equal
known-by : {A : Type 0} (r s : Result A Refusal) → refusal_of r ≡ refusal_of s → ((a b : A) → r ≡ Ok a → s ≡ Ok b → a ≡ b) → r ≡ s
known-by (Ok a) (Ok b) why answers = ap Ok (answers a b refl refl)
known-by (Ok a) (Err w) why answers = absurd (number-some w (sym why))
known-by (Err v) (Ok b) why answers = absurd (number-some v why)
known-by (Err v) (Err w) why answers = err-injective v w why

-- of a fresh reader
pub same-state : {r s : Reader} {t : State} → state_of r ≡ t → state_of s ≡ t → r ≡ s
same-state {r} {s} p q = state-injective r s (same p q)

-- of a power-on
pub same-powered : (reader : Reader) {r s : Result Reader Refusal} {t : PoweredOn} → powering reader r ≡ t → powering reader s ≡ t → r ≡ s
same-powered reader {r} {s} p q =
    let says : Result Reader Refusal → PoweredOn = powering reader in
    let e = same p q in
    known-by r s (ap (λ (m : PoweredOn). m.refusal) e)
    (λ a b is was. state-injective a b (ap (λ (m : PoweredOn). m.state) (ap says (sym is) ∙ e ∙ ap says was)))

-- of a reader's call, and of both buffers
pub same_answer : (reader : Reader) (i : Input) (lent : Buffers) {r s : Result Answer Refusal} {k l : Buffers} → Answers reader i lent r k → Answers reader i lent s l
    → (r ≡ s) × (k ≡ l)
same_answer reader i lent {r} {s} {k} {l} d f =
    let e : answer_says reader r k ≡ answer_says reader s l = same d f in
    (known-by r s (ap (λ (a : Answered). a.refusal) e) (λ a b is was. of a b (ap (says k) (sym is) ∙ e ∙ ap (says l) was)), ap (λ (a : Answered). a.left) e)
  where
    says : Buffers → Result Answer Refusal → Answered
    says left r = answer_says reader r left

    of : (a b : Answer) → answer_says reader (Ok a) k ≡ answer_says reader (Ok b) l → a ≡ b
    of a b e =
        let state = state-injective a.reader b.reader (ap (λ (a : Answered). a.state) e) in
        let buffer = buffer-injective a.buffer b.buffer (ap (λ (a : Answered). a.buffer) e) in
        λ j. record { reader = state j; buffer = buffer j; length = (e j).length }
