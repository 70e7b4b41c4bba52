-- A line's next byte counted by what it is to the receiver: a turn with no event, one that gives the frame up, or a stop byte.
-- Assumes nothing.
use mathlib.Core.Path.{◌≡◌, refl, ap, subst⁻¹, ◌∙◌}
use mathlib.Core.Bool.{false, cond}
use mathlib.Core.List.{List, [], ◌∷◌}
use Prim.Native.Nat.{ℕ, ◌+◌}
use lib.ListN.{take}
use Rattle.std.specs.Prelude.{Some}
use Rattle.link_spec.specs.declared.station.Station.{Station}
use Rattle.link_spec.specs.declared.event.Event.{Event}
use Rattle.link_spec.specs.declared.receiver.Phase.{Phase}
use Rattle.link_spec.specs.declared.receiver.Receiver.{Receiver}
use Rattle.link_spec.specs.declared.receiver.Turn.{Turn}
use Rattle.link_spec.specs.declared.receiver.Turn.TheVariants.{Rest, Begin, Wait, Keep, Stop, Tell}
use Rattle.link_spec.specs.Events.{named, telling, silent, verdict}
use Rattle.link_spec.specs.Station.{check_on}
use Rattle.link_spec.specs.Rules.{ByRule, ignored, begins, stops, address, no_address, waits, plain, pair, no_pair, long_plain, long_pair}
use Rattle.link_spec.specs.Receiving.{Said, so_far, turn_at, moved, outside, has_event, outcome, outcome_at, said_of, heard, bad_receiver, received}
use Rattle.link_spec.proofs.Laws.Turning.{turn-rule}
use Rattle.link_spec.proofs.Laws.Receiving.{hears}
use Rattle.totals_spec.specs.declared.totals.Sums.{Sums}
use Rattle.totals_spec.specs.Whole.{is_frame}
use Rattle.totals_spec.specs.Adding.{account, with_bytes, with_frame, with_said, after_bytes}

-- what gives a frame up is no FRAME
abbrev NoFrame : Turn → Type 0
NoFrame Rest = Unit {0}
NoFrame Begin = Unit {0}
NoFrame Wait = Unit {0}
NoFrame (Keep b) = Unit {0}
NoFrame Stop = Unit {0}
NoFrame (Tell why) = is_frame (named (Some why)) ≡ false

rule-no-frame : {station : Station} {count b : ℕ} {phase : Phase} {t : Turn} → ByRule station count b phase t → NoFrame t
rule-no-frame (ignored f) = tt
rule-no-frame (begins e) = tt
rule-no-frame (stops e) = tt
rule-no-frame (address a) = tt
rule-no-frame (no_address a) = refl
rule-no-frame (waits l e) = tt
rule-no-frame (plain l other room) = tt
rule-no-frame (pair known room) = tt
rule-no-frame (no_pair over f) = refl
rule-no-frame (long_plain l other full) = refl
rule-no-frame (long_pair known full) = refl

module _ (s : Receiver) (sums : Sums) (b : ℕ) (bs : List ℕ) (good : bad_receiver s ≡ false) where
  -- what the receiver says of the byte
  byte-said : received s (b ∷ [])
      ≡ cond (has_event (turn_at s b)) (said_of (moved s (turn_at s b)) (outcome_at s (turn_at s b)) (0 + 1))
      (said_of (moved s (turn_at s b)) silent (0 + 1))
  unfolding heard
  byte-said = hears s (b ∷ []) good

  -- the account after it
  said-counts : {said : Said} → received s (b ∷ []) ≡ said
      → after_bytes (account s sums) (b ∷ bs) ≡ after_bytes (account said.receiver (with_said s.station said (with_bytes 1 sums))) bs
  unfolding after_bytes
  said-counts e = ap (λ (x : Said). after_bytes (account x.receiver (with_said s.station x (with_bytes 1 sums))) bs) e

  -- a turn with no event
  pub quiet-turn : {t : Turn} → t ≡ turn_at s b → has_event t ≡ false
      → after_bytes (account s sums) (b ∷ bs) ≡ after_bytes (account (moved s t) (with_bytes 1 sums)) bs
  quiet-turn {t} is quiet =
      let e : received s (b ∷ []) ≡ said_of (moved s t) silent (0 + 1) = byte-said ∙ rw (← is, quiet) refl in said-counts e

  -- one that gives the frame up
  pub tell-turn : {why : Event} → Tell why ≡ turn_at s b
      → after_bytes (account s sums) (b ∷ bs) ≡ after_bytes (account (outside s.station s.content) (with_bytes 1 sums)) bs
  unfolding moved outcome
  tell-turn {why} is =
      let e : received s (b ∷ []) ≡ said_of (outside s.station s.content) (Some (telling why 0)) (0 + 1) = byte-said ∙ rw (← is) refl in
      let none : is_frame (named (Some why)) ≡ false = subst⁻¹ NoFrame is (rule-no-frame (turn-rule s.station s.phase s.count b)) in
      said-counts e ∙ rw none refl

  -- a stop byte
  pub stop-turn : Stop ≡ turn_at s b
      → let v = verdict (check_on s.station) (so_far s) in
      after_bytes (account s sums) (b ∷ bs)
      ≡ after_bytes (account (outside s.station s.content)
      (cond (is_frame (named (Some v.event))) (with_frame s.station (take v.length s.content) (with_bytes 1 sums)) (with_bytes 1 sums))) bs
  unfolding moved outcome
  stop-turn is =
      let v = verdict (check_on s.station) (so_far s) in
      let e : received s (b ∷ []) ≡ said_of (outside s.station s.content) (Some v) (0 + 1) = byte-said ∙ rw (← is) refl in said-counts e
