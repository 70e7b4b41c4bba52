-- What a turn leaves of a receiver's state: its station, a count within the limit and a full array; and how much its event carries. No call
-- refuses such a state.
-- Assumes nothing.
use mathlib.Core.Path.{◌≡◌, refl, ◌∙◌}
use mathlib.Core.Bool.{true, false}
use mathlib.Core.List.{List}
use Prim.Native.Nat.{ℕ, ◌≤◌, zero-le}
use native.Mathlib.Omega.{arith}
use lib.ListN.{length, length-set, length-replicate}
use borrow.Author.Tests.{le-ltb}
use Rattle.checks.specs.declared.kind.Check.{Check}
use Rattle.wire_spec.specs.Limits.{most_content}
use Rattle.link_spec.specs.declared.event.Verdict.{Verdict}
use Rattle.link_spec.specs.declared.station.Station.{Station}
use Rattle.link_spec.specs.declared.receiver.Turn.{Turn}
use Rattle.link_spec.specs.declared.receiver.Turn.TheVariants.{Rest, Begin, Wait, Keep, Stop, Tell}
use Rattle.link_spec.specs.declared.receiver.Receiver.{Receiver}
use Rattle.link_spec.specs.Station.{has_address}
use Rattle.link_spec.specs.Events.{length_told, verdict}
use Rattle.link_spec.specs.Receiving.{fresh_receiver, turn_at, moved, outcome, bad_receiver}
use Rattle.link_spec.proofs.Laws.Turning.{Sound, turn-sound}
use Rattle.link_spec.proofs.Laws.Events.{by-stop}

-- ---- an event carries no more than was kept

verdict-length : (check : Check) (kept : List ℕ) → (verdict check kept).length ≤ length kept
verdict-length check kept =
    by-stop check kept (λ (v : Verdict). v.length ≤ length kept) (λ few. zero-le) (λ least w. omega arith) (λ least r. omega arith)

pub outcome-length : (check : Check) (kept : List ℕ) (t : Turn) → length_told (outcome check kept t) ≤ length kept
unfolding outcome
outcome-length check kept Rest = zero-le
outcome-length check kept Begin = zero-le
outcome-length check kept Wait = zero-le
outcome-length check kept (Keep b) = zero-le
outcome-length check kept Stop = verdict-length check kept
outcome-length check kept (Tell why) = zero-le

-- ---- what a turn leaves

-- the station and the array's size stay, and a count within the limit stays within it
pub record Leaves (s r : Receiver) : Type 0 where
  pub station : r.station ≡ s.station
  pub sized : length r.content ≡ length s.content
  pub count : s.count ≤ most_content → r.count ≤ most_content

pub leaves_all : (s : Receiver) → Leaves s s
leaves_all s = record { station = refl; sized = refl; count = λ within. within }

pub leaves-then : {s r q : Receiver} → Leaves s r → Leaves r q → Leaves s q
leaves-then a b = record { station = b.station ∙ a.station; sized = b.sized ∙ a.sized; count = λ within. b.count (a.count within) }

pub turn-leaves : (s : Receiver) (t : Turn) → Sound s.count t → Leaves s (moved s t)
unfolding moved
turn-leaves s Rest sound = leaves_all s
turn-leaves s Begin sound = record { station = refl; sized = refl; count = λ within. zero-le }
turn-leaves s Wait sound = record { station = refl; sized = refl; count = λ within. within }
turn-leaves s (Keep b) room =
    record { station = refl; sized = length-set s.content s.count b; count = λ within. omega (arith, room) }
turn-leaves s Stop sound = record { station = refl; sized = refl; count = λ within. zero-le }
turn-leaves s (Tell why) sound = record { station = refl; sized = refl; count = λ within. zero-le }

-- a byte that is kept has room
pub sound-at : (s : Receiver) (b : ℕ) → Sound s.count (turn_at s b)
sound-at s b = turn-sound s.station s.phase s.count b

pub leaves_at : (s : Receiver) (b : ℕ) → Leaves s (moved s (turn_at s b))
leaves_at s b = turn-leaves s (turn_at s b) (sound-at s b)

-- ---- a receiver of this station, with a count within the limit and a full array

pub record Fit (station : Station) (s : Receiver) : Type 0 where
  pub on : s.station ≡ station
  pub sized : length s.content ≡ most_content
  pub within : s.count ≤ most_content

pub fresh-fit : (station : Station) → Fit station (fresh_receiver station)
fresh-fit station = record { on = refl; sized = length-replicate {A = ℕ} most_content 0; within = zero-le }

pub fit-moved : {station : Station} {s : Receiver} → Fit station s → (t : Turn) → Sound s.count t → Fit station (moved s t)
fit-moved {s} fit t sound =
    let l = turn-leaves s t sound in
    record { on = l.station ∙ fit.on; sized = l.sized ∙ fit.sized; within = l.count fit.within }

pub fit_at : {station : Station} {s : Receiver} → Fit station s → (b : ℕ) → Fit station (moved s (turn_at s b))
fit_at {s} fit b = fit-moved fit (turn_at s b) (sound-at s b)

-- no row of the refusal table names it
pub fit-good : {station : Station} {s : Receiver} → has_address station ≡ true → Fit station s → bad_receiver s ≡ false
fit-good {s} good fit = rw (le-ltb most_content s.count fit.within, fit.on, good)
