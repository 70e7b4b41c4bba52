-- Every call has a result that its statement allows, so a session can be continued by any call; and a call with good buffers is not refused.
-- Assumes nothing.
use mathlib.Core.Path.{◌≡◌, refl, sym, ap, ◌∙◌}
use mathlib.Core.Bool.{Bool}
use mathlib.Core.List.{List}
use mathlib.Core.Option.{none}
use Prim.Native.Nat.{ℕ}
use lib.ListN.{length}
use Rattle.std.specs.Prelude.{Result, Ok, Err}
use Rattle.ground.specs.declared.refusal.Refusal.{Refusal}
use Rattle.request_spec.specs.Limits.{header_length}
use Rattle.reader_spec.specs.declared.reader.Reader.{Reader}
use Rattle.reader_spec.specs.declared.reader.Answer.{Answer}
use Rattle.reader_spec.specs.Parameters.{after_power}
use Rattle.reader_spec.specs.State.{state_with, state_of}
use Rattle.reader_spec.specs.Asking.{asking}
use Rattle.reader_spec.specs.Sending.{Buffers}
use Rattle.reader_spec.specs.Answering.{powering, powered_on, Input, Answered, answer_says, LentWell, Unfit, answered}
use Rattle.reader_spec.specs.Sessions.{History, StoreKept, Call, Done, ReaderSession}
use Rattle.reader_spec.proofs.Laws.State.{reader_with, state-back}
use Rattle.reader_spec.proofs.Laws.Sending.{buffer_with, buffer-back}
use Rattle.reader_spec.proofs.Laws.Answering.{steps-fine, powers-on, does-steps, none-fit, row-elim}
use Rattle.reader_spec.proofs.Laws.Sessions.{session-good}

-- a result that says this
pub record Said (s : Reader) (a : Answered) : Type 0 where
  pub answer : Result Answer Refusal
  pub says : answer_says s answer a.left ≡ a

said : (s : Reader) (a : Answered) → a.refusal ≡ 0 → Said s a
said s a fine =
    record {
      answer = Ok (record { reader = reader_with a.state; buffer = buffer_with a.buffer; length = a.length });
      says = λ i. record {
        refusal = sym fine i;
        state = state-back a.state i;
        buffer = buffer-back a.buffer i;
        length = a.length;
        left = a.left;
      };
    }

pub answer-some : (s : Reader) (i : Input) (lent : Buffers) → Said s (answered (state_of s) i lent)
answer-some s i lent =
    row-elim (state_of s) i lent (Said s) (λ why _. record { answer = Err why; says = refl })
    (λ well _. said s _ (steps-fine (state_of s) i lent (asking i.event)))

-- so every call can be made
pub call-some : {alone : Bool} {h : History} {s : Reader} {held : List ℕ} (i : Input) (lent : Buffers) → StoreKept alone h held lent.store
    → length i.header ≡ header_length
    → (c : Call alone h s held) × (c.input ≡ i) × (c.lent ≡ lent)
call-some {s} i lent kept whole =
    let r = answer-some s i lent in (
      record {
        input = i;
        lent = lent;
        answer = r.answer;
        left = (answered (state_of s) i lent).left;
        kept = kept;
        whole = whole;
        says = r.says;
      },
      refl,
      refl,
    )

-- and with good buffers and a content that fits it is not refused
pub call-fine : {alone : Bool} {h : History} {s : Reader} {held : List ℕ} → ReaderSession alone s held h → (c : Call alone h s held)
    → LentWell c.input c.lent
    → (Unfit c.input → ⊥)
    → Done c
call-fine {s} se c well fit =
    ap (λ (a : Answered). a.refusal) c.says
    ∙ ap (λ (a : Answered). a.refusal) (does-steps (state_of s) c.input c.lent (session-good se) well (none-fit c.input fit))
    ∙ steps-fine (state_of s) c.input c.lent (asking c.input.event)

-- no power-on is
pub power-some : {alone : Bool} {s : Reader} {held : List ℕ} {h : History} → ReaderSession alone s held h
    → (r : Result Reader Refusal) × (powering s r ≡ powered_on (state_of s)) × ((powering s r).refusal ≡ 0)
power-some {s} se =
    let left = state_with (after_power s.parameters) s.fast none in
    (Ok (reader_with left), sym (powers-on (state_of s) (session-good se)), refl)
