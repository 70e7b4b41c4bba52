-- `receiver::hear`: at each turn, the bytes that are left give, from the receiver so far, what the whole piece gives from the first.
-- Assumes nothing.
use mathlib.Core.Path.{◌≡◌, refl, sym, ap, ◌∙◌}
use mathlib.Core.Bool.{true, false}
use Prim.Native.Nat.{◌+◌}
use native.Mathlib.Omega.{arith}
use lib.ListN.{get_or, take}
use Rattle.std.specs.Prelude.{Some}
use Rattle.link_spec.specs.declared.event.Verdict.{Verdict}
use Rattle.link_spec.specs.declared.receiver.Turn.{Turn}
use Rattle.link_spec.specs.declared.receiver.Receiver.{Receiver}
use Rattle.link_spec.specs.Events.{verdict}
use Rattle.link_spec.specs.Station.{check_on}
use Rattle.link_spec.specs.Turning.{turn}
use Rattle.link_spec.specs.Receiving.{receiver_of, outside, moved, has_event, outcome, outcome_at, said_of, heard}
use Rattle.link_spec.proofs.Laws.Turning.{keep-room, rest-outside, outside-rests}
use Rattle.link_spec.proofs.Laws.Receiving.{Going, runs-out, next-byte, breaks-off}
use Rattle.link_spec.proofs.Laws.Unique.{same_move, same-ruling}
use Rattle.link.specs.declared.receiver.Found.{Found}
use Rattle.link.proofs.receiver.hear.Goals as goal
use Rattle.link.proofs.receiver.hear.Goals.{After-at_byte-turn, in-Stop, in-Tell}

module _ (c : After-at_byte-turn) {t : Turn} (found : c.at_byte-turn.result ≡ t) where
  -- the receiver before the byte
  abbrev here : Receiver
  here = receiver_of c.args.receiver.station c.loop-taken.phase c.loop-taken.count c.loop-taken.content

  -- the turn that was found is that of the byte
  turn_is : t ≡ turn here.station here.phase here.count (get_or c.args.piece.now c.loop-taken.taken 0)
  turn_is = sym found ∙ same_move c.at_byte-turn.ensures refl

  goes_on : has_event t ≡ false → Going c.args.piece.now c.args.receiver (c.loop-taken.taken + 1) (moved here t)
  goes_on none = next-byte c.loop-taken.invariant (omega arith) turn_is none

  ends : has_event t ≡ true → said_of (moved here t) (outcome_at here t) (c.loop-taken.taken + 1) ≡ heard 0 c.args.receiver c.args.piece.now
  ends one = breaks-off c.loop-taken.invariant (omega arith) turn_is one

pub returns-then-taken-piece : goal.returns-then-taken-piece
returns-then-taken-piece c = c.heard_with.ensures ∙ runs-out c.loop-taken.invariant (omega arith)

-- a byte that is ignored comes outside a frame, where all is ignored up to the next FD
pub loop-taken-2-init : goal.loop-taken-2-init
unfolding moved
loop-taken-2-init c =
    let at = (goal.at.loop-taken-2-init c).After-at_byte-turn in
    (omega arith, rest-outside _ _ _ _ (turn_is at c.in-Rest.is), goes_on at c.in-Rest.is refl)

pub loop-taken-2-preserved : goal.loop-taken-2-preserved
unfolding moved
loop-taken-2-preserved c =
    let (later, out, going) = c.loop-taken-2.invariant in
    (omega (arith, later), out, next-byte going (omega arith) (outside-rests _ _ _ _ out c.if-piece-taken.true) refl)

pub loop-taken-smaller-else-piece-taken : goal.loop-taken-smaller-else-piece-taken
loop-taken-smaller-else-piece-taken c = omega (arith, c.loop-taken-2.invariant.0)

pub loop-taken-preserved-in-Begin : goal.loop-taken-preserved-in-Begin
unfolding moved
loop-taken-preserved-in-Begin c = goes_on (goal.at.loop-taken-preserved-in-Begin c).After-at_byte-turn c.in-Begin.is refl

pub loop-taken-preserved-in-Wait : goal.loop-taken-preserved-in-Wait
unfolding moved
loop-taken-preserved-in-Wait c = goes_on (goal.at.loop-taken-preserved-in-Wait c).After-at_byte-turn c.in-Wait.is refl

pub bounds-content-count : goal.bounds-content-count
bounds-content-count c = keep-room _ _ _ _ (turn_is (goal.at.bounds-content-count c).After-at_byte-turn c.in-Keep.is)

pub loop-taken-preserved : goal.loop-taken-preserved
unfolding moved
loop-taken-preserved c = goes_on (goal.at.loop-taken-preserved c).After-at_byte-turn c.in-Keep.is refl

-- the two ways out of the loop: the frame ended, or was given up
pub returns : goal.returns
unfolding moved outcome
returns c =
    let at = (goal.at.returns c).After-at_byte-turn in
    let on = said_of (outside c.args.receiver.station c.loop-taken.content) in
    let told = verdict (check_on c.args.receiver.station) (take c.loop-taken.count c.loop-taken.content) in
    c.heard_with-2.ensures
    ∙ ap (λ (r : Receiver). said_of r (Some c.match-turn.found.verdict) c.match-turn.found.taken) c.outside.ensures
    ∙ elim c.match-turn.branch [
      | in-Stop w ↦ ap (λ (f : Found). on (Some f.verdict) f.taken) w.found-is
          ∙ ap (λ (v : Verdict). on (Some v) (c.loop-taken.taken + 1))
          (same-ruling {r = w.at_stop-verdict.result} {s = told} w.at_stop-verdict.ensures refl)
          ∙ ends at w.in-Stop.is refl
      | in-Tell w ↦ ap (λ (f : Found). on (Some f.verdict) f.taken) w.found-is ∙ ends at w.in-Tell.is refl
    ]
