-- What was written to a parameter is what a later read answers, until another write or, for a speed above 7, a power-on.
-- Assumes nothing.
use mathlib.Core.Path.{◌≡◌, refl, ap, ◌∙◌}
use mathlib.Core.Bool.{Bool, true, false}
use mathlib.Core.List.{List}
use Prim.Native.Nat.{ℕ}
use lib.Dec.{eqb}
use lib.ListN.{drop}
use borrow.Author.Tests.{eqb-true, eq-eqb}
use Rattle.std.specs.Prelude.{Result, Ok, Err}
use Rattle.ground.proofs.Laws.Choice.{cond-elim, by-test}
use Rattle.request_spec.specs.declared.parameter.Parameter.{Parameter}
use Rattle.request_spec.specs.declared.command.Command.{Command}
use Rattle.request_spec.specs.declared.command.Command.TheVariants.{Write, Read}
use Rattle.request_spec.specs.declared.command.Fault.{Fault}
use Rattle.request_spec.specs.Parameters.{parameter_code}
use Rattle.request_spec.specs.Replies.{DATA, identifier_of, command_of, data_of}
use Rattle.request_spec.proofs.Laws.Parameters.{same_code}
use Rattle.reader_spec.specs.declared.reader.Asking.{Asking}
use Rattle.reader_spec.specs.declared.reader.Asking.TheVariants.{Nothing, Wrong, Right}
use Rattle.reader_spec.specs.declared.reader.Reader.{Reader}
use Rattle.reader_spec.specs.Asking.{asking}
use Rattle.reader_spec.specs.Replies.{reply_image, reply_to}
use Rattle.reader_spec.specs.Answering.{Input}
use Rattle.reader_spec.specs.Sessions.{History, powered_value, powered_by, repeats_last, asks_for, served_of, values_after, judged_history, next_history_as, next_history, is_executed, Call, reader_after, outcome, Done, bytes_sent, ReaderSession, powered, called, Unwritten, still, power, other, left_of}
use Rattle.reader_spec.specs.Promises.{KeptValue}
use Rattle.reader_spec.proofs.Laws.Speeds.{served-was}
use Rattle.reader_spec.proofs.Laws.Parameters.{powered-twice}
use Rattle.reader_spec.proofs.Laws.Sessions.{session-on, power-fine, is-frame, is-new, served-asked, executed-sends}
use Rattle.reader_spec.proofs.Laws.Idle.{executes-nothing}

-- ---- a call that executes no write of a parameter keeps its value

module _ (p : Parameter) (h : History) (i : Input) where
  values-kept : (command : Command) → (◌≡◌ {A = Result Command Fault} (Ok command) (Ok (Write p)) → ⊥)
      → values_after h.value command (data_of i.content) p ≡ h.value p
  values-kept Command.Header not = refl
  values-kept (Write q) not =
      cond-elim (λ (l : List ℕ). l ≡ h.value p) (eqb (parameter_code q) (parameter_code p))
      (λ e. absurd (not (ap (λ (r : Parameter). Ok (Write r)) (same_code q p e)))) (λ _. refl)
  values-kept (Read q) not = refl
  values-kept (Command.Card card) not = refl

  judged-kept : (k : Result Command Fault) → (k ≡ Ok (Write p) → ⊥) → (judged_history h i k).value p ≡ h.value p
  judged-kept (Err fault) not = refl
  judged-kept (Ok command) not = values-kept command not

  value-kept : (asked : Asking) → (asks_for i ≡ Ok (Write p) → ⊥) → (next_history_as h i asked).value p ≡ h.value p
  value-kept Nothing not = refl
  value-kept Wrong not = refl
  value-kept Right not =
      cond-elim (λ (k : History). k.value p ≡ h.value p) (repeats_last h i) (λ _. refl)
      (λ _. judged-kept (served_of h i) (λ does. not (served-was h.fast (data_of i.content) (asks_for i) does).0))

  next-kept : (is_executed h i ≡ true → asks_for i ≡ Ok (Write p) → ⊥) → (next_history h i).value p ≡ h.value p
  next-kept idle =
      by-test (λ _. (next_history h i).value p ≡ h.value p) (is_executed h i) (λ e. value-kept (asking i.event) (idle e))
      (λ e. ap (λ (k : History). k.value p) (executes-nothing h i e))

-- a power-on leaves of what is left what it leaves of the value
left-powered : (with_power : Bool) (p : Parameter) (value : List ℕ) → powered_value p (left_of with_power p value) ≡ powered_value p value
left-powered true p value = powered-twice p value
left-powered false p value = refl

-- so does every sequence of such calls, and of power-ons but for a speed above 7
pub unwritten-value : {alone : Bool} {p : Parameter} {s : Reader} {held : List ℕ} {h : History} {t : Reader} {kept : List ℕ} {k : History} {with_power : Bool}
    → ReaderSession alone s held h
    → Unwritten alone p s held h t kept k with_power
    → KeptValue alone p h t kept k with_power
unwritten-value se still = record { session = se; value = refl }
unwritten-value {p = p} {h = h} se (power {k = k} {with_power = with_power} u r says) =
    let v = unwritten-value se u in
    record {
      session = powered v.session r says;
      value = ap (λ (n : ℕ). (powered_by k n).value p) (power-fine v.session r says)
          ∙ ap (powered_value p) v.value
          ∙ left-powered with_power p (h.value p);
    }
unwritten-value {p = p} {h = h} se (other {k = k} {with_power = with_power} u c idle) =
    let v = unwritten-value se u in
    record {
      session = called v.session c;
      value = cond-elim (λ (l : History). l.value p ≡ left_of with_power p (h.value p)) (eqb (outcome c).refusal 0)
          (λ e. next-kept p k c.input (idle (eqb-true (outcome c).refusal 0 e)) ∙ v.value) (λ _. v.value);
    }

-- ---- a read that is executed answers the value

pub read-answers : {alone : Bool} {s : Reader} {held : List ℕ} {h : History} {p : Parameter} → ReaderSession alone s held h
    → (c : Call alone h s held)
    → Done c
    → is_executed h c.input ≡ true
    → asks_for c.input ≡ Ok (Read p)
    → bytes_sent c ≡ reply_image (identifier_of c.input.content) (command_of c.input.content) (DATA (h.value p))
unfolding reply_to
read-answers se c done does asked = executed-sends se c done does asked

-- a value that was written is what a read sends, after any calls and power-ons that execute no other write of it; for a speed above 7 that is
-- 3 after a power-on
pub written_read : {alone with_power : Bool} {s t : Reader} {held kept : List ℕ} {h k : History} {p : Parameter} → ReaderSession alone s held h
    → (writes : Call alone h s held)
    → Done writes
    → is_executed h writes.input ≡ true
    → asks_for writes.input ≡ Ok (Write p)
    → Unwritten alone p (reader_after writes) writes.left.store (next_history h writes.input) t kept k with_power
    → (reads : Call alone k t kept)
    → Done reads
    → is_executed k reads.input ≡ true
    → asks_for reads.input ≡ Ok (Read p)
    → bytes_sent reads
    ≡ reply_image (identifier_of reads.input.content) (command_of reads.input.content)
    (DATA (left_of with_power p (drop 1 (data_of writes.input.content))))
written_read {with_power = with_power} {h = h} {p = p} se writes done does asked later reads done' does' asked' =
    let v = unwritten-value (session-on se writes done) later in
    let value : (next_history h writes.input).value p ≡ drop 1 (data_of writes.input.content) =
    rw (is-frame se writes done does, is-new se writes done does, served-asked se writes done does ∙ asked, eq-eqb (parameter_code p) (parameter_code p) refl) refl in
    read-answers v.session reads done' does' asked'
    ∙ ap (λ (l : List ℕ). reply_image (identifier_of reads.input.content) (command_of reads.input.content) (DATA l))
    (v.value ∙ ap (left_of with_power p) value)
