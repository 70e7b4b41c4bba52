-- A call's statement leaves no choice: two results that it allows are equal. docs/STATEMENTS.md cites one for each call whose
-- statement reads its result; the others have ground's `same`.
-- Assumes nothing.
use mathlib.Core.Path.{◌≡◌, refl, sym, ap}
use mathlib.Mathlib.Logic.Function.Defs.{LeftInverse-Injective}
use Rattle.std.specs.Prelude.{Option, None, Some, Result, Ok, Err}
use Rattle.std.proofs.lemmas.Option.{same_Some}
use Rattle.ground.specs.declared.refusal.Refusal.{Refusal}
use Rattle.ground.proofs.Laws.Refusals.{number-some, number-injective}
use Rattle.ground.proofs.Laws.Unique.{same, err-injective}
use Rattle.link_spec.specs.declared.event.Event.{Event}
use Rattle.link_spec.specs.declared.event.Verdict.{Verdict}
use Rattle.link_spec.specs.declared.receiver.Turn.{Turn}
use Rattle.link_spec.specs.declared.receiver.Turn.TheVariants.{Rest, Begin, Wait, Keep, Stop, Tell}
use Rattle.link_spec.specs.declared.receiver.Receiver.{Receiver}
use Rattle.link_spec.specs.declared.receiver.RefusedStation.{RefusedStation}
use Rattle.link_spec.specs.declared.receiver.Heard.{Heard}
use Rattle.link_spec.specs.Events.{event_told}
use Rattle.link_spec.specs.Moves.{Move, IGNORED, BEGINS, WAITS, CONTENT, ENDS, EVENT, move_of, Ruling, ruling_of}
use Rattle.link_spec.specs.Receiving.{Made, made, Said, saying}
use Rattle.link_spec.proofs.Laws.Events.{event_of, event_of-named, named-injective, told-injective}

-- the turn that tells this event
abbrev tell_of : Option Event → Turn
tell_of None = Rest
tell_of (Some event) = Tell event

-- the turn that this move is
abbrev turn_of : Move → Turn
turn_of IGNORED = Rest
turn_of BEGINS = Begin
turn_of WAITS = Wait
turn_of (CONTENT b) = Keep b
turn_of ENDS = Stop
turn_of (EVENT name) = tell_of (event_of name)

turn_of-move : (t : Turn) → turn_of (move_of t) ≡ t
turn_of-move Rest = refl
turn_of-move Begin = refl
turn_of-move Wait = refl
turn_of-move (Keep b) = refl
turn_of-move Stop = refl
turn_of-move (Tell event) = ap tell_of (event_of-named (Some event))

-- of a station's rule for a byte
pub same_move : {r s : Turn} {m : Move} → move_of r ≡ m → move_of s ≡ m → r ≡ s
same_move {r} {s} p q = LeftInverse-Injective turn_of move_of turn_of-move r s (same p q)

-- and for a stop byte
pub same-ruling : {r s : Verdict} {t : Ruling} → ruling_of r ≡ t → ruling_of s ≡ t → r ≡ s
same-ruling {r} {s} p q =
    let e : ruling_of r ≡ ruling_of s = same p q in
    let event = same_Some r.event s.event (named-injective (Some r.event) (Some s.event) (ap (λ (m : Ruling). m.event) e)) in
    λ i. record { event = event i; length = (e i).length }

made-injective : (r s : Result Receiver RefusedStation) → made r ≡ made s → r ≡ s
made-injective (Ok a) (Ok b) e = ap (λ (m : Made). Ok m.receiver) e
made-injective (Ok a) (Err w) e = absurd (number-some w.refusal (sym (ap (λ (m : Made). m.refusal) e)))
made-injective (Err v) (Ok b) e = absurd (number-some v.refusal (ap (λ (m : Made). m.refusal) e))
made-injective (Err v) (Err w) e =
    let why = same_Some v.refusal w.refusal (number-injective (Some v.refusal) (Some w.refusal) (ap (λ (m : Made). m.refusal) e)) in
    λ i. Err (record { refusal = why i; receiver = (e i).receiver })

-- of a call that makes a receiver or refuses
pub same-made : {r s : Result Receiver RefusedStation} {t : Made} → made r ≡ t → made s ≡ t → r ≡ s
same-made {r} {s} p q = made-injective r s (same p q)

said-injective : (s : Receiver) (r q : Result Heard Refusal) → saying s r ≡ saying s q → r ≡ q
said-injective s (Ok a) (Ok b) e =
    let event = named-injective (event_told a.told) (event_told b.told) (ap (λ (m : Said). m.event) e) in
    let told = told-injective a.told b.told event (ap (λ (m : Said). m.length) e) in
    λ i. Ok (record { receiver = (e i).receiver; told = told i; content = (e i).content; taken = (e i).taken })
said-injective s (Ok a) (Err w) e = absurd (number-some w (sym (ap (λ (m : Said). m.refusal) e)))
said-injective s (Err v) (Ok b) e = absurd (number-some v (ap (λ (m : Said). m.refusal) e))
said-injective s (Err v) (Err w) e = err-injective v w (ap (λ (m : Said). m.refusal) e)

-- of a call that takes a piece
pub same-said : (s : Receiver) {r q : Result Heard Refusal} {t : Said} → saying s r ≡ t → saying s q ≡ t → r ≡ q
same-said s {r} {q} e f = said-injective s r q (same e f)
