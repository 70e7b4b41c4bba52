-- A piece is heard byte by byte: a call on it answers what a call on its first byte answers or, where that has no event, what a call on
-- the others answers after it. So a hearing may go on byte by byte.
-- Assumes nothing.
use mathlib.Core.Path.{◌≡◌, refl, sym, ap, subst, ◌∙◌}
use mathlib.Core.Bool.{Bool, true, false, cond, true≢false, false≢true}
use mathlib.Core.List.{List, [], ◌∷◌, ◌++◌}
use Prim.Native.Nat.{ℕ, ◌+◌}
use lib.ListN.{take, drop}
use Rattle.link_spec.specs.declared.receiver.Receiver.{Receiver}
use Rattle.link_spec.specs.Events.{Name, NONE, happened, silent}
use Rattle.link_spec.specs.Receiving.{Said, turn_at, moved, has_event, outcome_at, said_of, heard, bad_receiver, received}
use Rattle.link_spec.specs.Hearing.{Told, told_at, note, tells, Hearing, call}
use Rattle.link_spec.proofs.Laws.Receiving.{hears, received-answers, event-happens, takes_one, stays-good}

-- an answer after one byte more
abbrev pub later : Said → Said
later said =
    record {
      refusal = said.refusal;
      receiver = said.receiver;
      event = said.event;
      content = said.content;
      length = said.length;
      taken = said.taken + 1;
    }

-- the same choice with and without it
later-cond : (e : Bool) (x on : Said) {more : Said} → more ≡ later on → cond e (later x) more ≡ later (cond e x on)
later-cond true x on same = refl
later-cond false x on same = same

heard-later : (piece : List ℕ) (taken : ℕ) (s : Receiver) → heard (taken + 1) s piece ≡ later (heard taken s piece)
unfolding heard
heard-later [] taken s = refl
heard-later (b ∷ bs) taken s =
    let t = turn_at s b in
    later-cond (has_event t) (said_of (moved s t) (outcome_at s t) (taken + 1)) (heard (taken + 1) (moved s t) bs)
    (heard-later bs (taken + 1) (moved s t))

-- an answer with an event, or one without
happened-first : (e : Bool) (x y on : Said) → y.event ≡ NONE → happened (cond e x y).event ≡ true → cond e x on ≡ cond e x y
happened-first true x y on none h = refl
happened-first false x y on none h = absurd (false≢true (sym (ap happened none) ∙ h))

happened-later : (e : Bool) (x y : Said) (on : Receiver → Said) → (e ≡ true → happened x.event ≡ true)
    → happened (cond e x y).event ≡ false
    → cond e x (on y.receiver) ≡ on (cond e x y).receiver
happened-later true x y on some h = absurd (true≢false (sym (some refl) ∙ h))
happened-later false x y on some h = refl

module _ (s : Receiver) (good : bad_receiver s ≡ false) (b : ℕ) where
  event : Said
  event = said_of (moved s (turn_at s b)) (outcome_at s (turn_at s b)) 1

  none : Said
  none = said_of (moved s (turn_at s b)) silent 1

  one : received s (b ∷ []) ≡ cond (has_event (turn_at s b)) event none
  unfolding heard event none
  one = hears s (b ∷ []) good

  several : (bs : List ℕ) → received s (b ∷ bs) ≡ cond (has_event (turn_at s b)) event (heard (0 + 1) (moved s (turn_at s b)) bs)
  unfolding heard event
  several bs = hears s (b ∷ bs) good

  -- an event at the first byte is all that the call tells
  pub received-first : (bs : List ℕ) → happened (received s (b ∷ [])).event ≡ true → received s (b ∷ bs) ≡ received s (b ∷ [])
  unfolding none
  received-first bs h =
      several bs
      ∙ happened-first (has_event (turn_at s b)) event none (heard (0 + 1) (moved s (turn_at s b)) bs) refl
      (sym (ap (λ (said : Said). happened said.event) one) ∙ h)
      ∙ sym one

  -- without one the others are heard after it
  pub received-later : (bs : List ℕ) → happened (received s (b ∷ [])).event ≡ false
      → received s (b ∷ bs) ≡ later (received (received s (b ∷ [])).receiver bs)
  unfolding event none
  received-later bs h =
      several bs
      ∙ happened-later (has_event (turn_at s b)) event none (λ (r : Receiver). heard (0 + 1) r bs) (event-happens s b)
      (sym (ap (λ (said : Said). happened said.event) one) ∙ h)
      ∙ ap (λ (said : Said). heard (0 + 1) said.receiver bs) (sym one)
      ∙ heard-later bs 0 (received s (b ∷ [])).receiver
      ∙ ap later (sym (hears (received s (b ∷ [])).receiver bs (stays-good s (b ∷ []) good)))

-- ---- a hearing byte by byte

pub note-some : (place : ℕ) (event : Name) (content : List ℕ) → happened event ≡ true
    → note place event content ≡ told_at place event content ∷ []
unfolding note
note-some place event content some = rw some

pub note-none : (place : ℕ) (event : Name) (content : List ℕ) → happened event ≡ false → note place event content ≡ []
unfolding note
note-none place event content none = rw none

pub hearing-byte : (stream : List ℕ) (b : ℕ) (bs : List ℕ) (before : ℕ) (s : Receiver) (more : List Told)
    → bad_receiver s ≡ false → drop before stream ≡ b ∷ bs
    → let said = received s (b ∷ []) in
    Hearing stream said.receiver (before + 1) more
    → Hearing stream s before (note (before + 1) said.event (take said.length said.content) ++ more)
unfolding tells
hearing-byte stream b bs before s more good left =
    let said = received s (b ∷ []) in
    let a = received-answers s (b ∷ []) in
    subst (λ (k : ℕ). Hearing stream said.receiver (before + k) more
    → Hearing stream s before (note (before + k) said.event (take said.length said.content) ++ more)) (takes_one s good b)
    (subst (λ (x : Said). Hearing stream x.receiver (before + x.taken) more → Hearing stream s before (tells before x ++ more)) a.1
    (call (b ∷ []) bs a.0 left a.1))
