-- Calls that execute nothing change nothing that a later repeat depends on.
-- Assumes nothing.
use mathlib.Core.Path.{◌≡◌, refl, sym, ap, subst, subst⁻¹, ◌∙◌}
use mathlib.Core.Bool.{Bool, true, false, cond, not, ◌&&◌, true≢false}
use mathlib.Core.List.{List}
use mathlib.Core.Option.{Option, none, some}
use lib.Dec.{eqb}
use lib.ListN.{take}
use borrow.Author.Tests.{eqb-true}
use Prim.Native.Nat.{ℕ}
use Rattle.std.specs.Prelude.{Result, Ok, Err}
use Rattle.ground.proofs.Laws.Choice.{cond-elim, by-test}
use Rattle.request_spec.specs.declared.command.Command.{Command}
use Rattle.request_spec.specs.declared.command.Fault.{Fault}
use Rattle.request_spec.specs.Acceptance.{is_accepted}
use Rattle.reader_spec.specs.declared.reader.Asking.{Asking}
use Rattle.reader_spec.specs.declared.reader.Asking.TheVariants.{Nothing, Wrong, Right}
use Rattle.reader_spec.specs.declared.reader.Reader.{Reader}
use Rattle.reader_spec.specs.State.{State, state_of}
use Rattle.reader_spec.specs.Asking.{asking}
use Rattle.reader_spec.specs.Sending.{Buffers}
use Rattle.reader_spec.specs.Answering.{Input, Answered, judged, stepped}
use Rattle.reader_spec.specs.Sessions.{Execution, History, repeats_last, served_of, judged_history, next_history_as, next_history, is_executed_as, is_executed, remembers, StoreKept, Call, reader_after, outcome, Done, ReaderSession, called, Idle, rests, passes}
use Rattle.reader_spec.specs.Promises.{Unchanged, Same}
use Rattle.reader_spec.proofs.Laws.Answering.{row-elim, steps-fine}
use Rattle.reader_spec.proofs.Laws.Agreeing.{memory_of, recalled_as, framed-told}
use Rattle.reader_spec.proofs.Laws.Sessions.{session-agrees, loose-call}

-- ---- such a call tells nothing new

judged-nothing : (h : History) (i : Input) (k : Result Command Fault) → is_accepted k ≡ false → judged_history h i k ≡ h
judged-nothing h i (Err fault) idle = refl
judged-nothing h i (Ok command) idle = absurd (true≢false idle)

executes-nothing-as : (h : History) (i : Input) (asked : Asking) → is_executed_as h i asked ≡ false → next_history_as h i asked ≡ h
executes-nothing-as h i Nothing idle = refl
executes-nothing-as h i Wrong idle = refl
executes-nothing-as h i Right idle =
    by-test (λ (t : Bool). (not t && is_accepted (served_of h i)) ≡ false → cond t h (judged_history h i (served_of h i)) ≡ h)
    (repeats_last h i) (λ _ _. refl) (λ _ n. judged-nothing h i (served_of h i) n) idle

pub executes-nothing : (h : History) (i : Input) → is_executed h i ≡ false → next_history h i ≡ h
executes-nothing h i = executes-nothing-as h i (asking i.event)

-- ---- and changes neither the state nor the store

module _ (s : State) (i : Input) (lent : Buffers) where
  judged-keeps : (k : Result Command Fault) → is_accepted k ≡ false → Unchanged s lent (judged s i lent k)
  judged-keeps (Err fault) idle = record { state = refl; store = refl }
  judged-keeps (Ok command) idle = absurd (true≢false idle)

  recalled-keeps : (last : Option Execution) → Unchanged s lent (recalled_as s lent last)
  recalled-keeps none = record { state = refl; store = refl }
  recalled-keeps (some e) = record { state = refl; store = refl }

  step_keeps : (asked : Asking) (h : History) → s.last ≡ memory_of h.last → s.fast ≡ h.fast → is_executed_as h i asked ≡ false
      → Unchanged s lent (stepped s i lent asked)
  step_keeps Nothing h remembered same idle = record { state = refl; store = refl }
  step_keeps Wrong h remembered same idle = record { state = refl; store = refl }
  step_keeps Right h remembered same idle =
      subst⁻¹ (Unchanged s lent) (framed-told s i lent h remembered same)
      (by-test
      (λ (t : Bool). (not t && is_accepted (served_of h i)) ≡ false
      → Unchanged s lent (cond t (recalled_as s lent h.last) (judged s i lent (served_of h i))))
      (repeats_last h i) (λ _ _. recalled-keeps h.last) (λ _ n. judged-keeps (served_of h i) n) idle)

pub call-keeps : {among alone : Bool} {h : History} {s : Reader} {held : List ℕ} → ReaderSession among s held h → (c : Call alone h s held)
    → (Done c → is_executed h c.input ≡ false)
    → Unchanged (state_of s) c.lent (outcome c)
call-keeps {h = h} {s = s} se c idle =
    subst⁻¹ (Unchanged (state_of s) c.lent) c.says
    (row-elim (state_of s) c.input c.lent
    (λ (a : Answered). (a.refusal ≡ 0 → is_executed h c.input ≡ false) → Unchanged (state_of s) c.lent a)
    (λ _ _ _. record { state = refl; store = refl })
    (λ well _ idle. step_keeps (state_of s) c.input c.lent (asking c.input.event) h (session-agrees se).memory
    (session-agrees se).fast (idle (steps-fine (state_of s) c.input c.lent (asking c.input.event))))
    (λ none. idle (ap (λ (a : Answered). a.refusal) c.says ∙ none)))

told_same : (n : ℕ) {h k : History} → (n ≡ 0 → k ≡ h) → cond (eqb n 0) k h ≡ h
told_same n {h} {k} same = cond-elim (λ (l : History). l ≡ h) (eqb n 0) (λ e. same (eqb-true n 0 e)) (λ _. refl)

kept_same : (alone : Bool) (h : History) (held store : List ℕ) → StoreKept alone h held store → alone ≡ true
    → take (remembers h.last) store ≡ take (remembers h.last) held
kept_same true h held store kept single = kept
kept_same false h held store kept single = absurd (true≢false (sym single))

-- so after any sequence of them all is as before
pub idle-keeps : {alone : Bool} {s : Reader} {held : List ℕ} {h : History} {t : Reader} {kept : List ℕ} → ReaderSession false s held h → Idle alone h s held t kept
    → Same alone h s held t kept
idle-keeps se rests = record { session = se; state = refl; store = λ _. refl }
idle-keeps {alone} {h = h} se (passes {t} {kept} i c idle) =
    let same = idle-keeps se i in
    let u = call-keeps same.session c idle in
    let told = told_same ((outcome c).refusal) (λ done. executes-nothing h c.input (idle done)) in
    record {
      session = subst (ReaderSession false (reader_after c) c.left.store) told (called same.session (loose-call c));
      state = u.state ∙ same.state;
      store = λ single. ap (take (remembers h.last)) u.store ∙ kept_same alone h kept c.lent.store c.kept single ∙ same.store single;
    }
