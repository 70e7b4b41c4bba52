-- Laws of one call of a receiver: its refusals, what it takes and what it carries, and how its loop goes.
-- Assumes nothing.
use mathlib.Core.Path.{◌≡◌, refl, sym, subst⁻¹, ◌∙◌}
use mathlib.Core.Bool.{Bool, true, false, cond, not, or-true, true≢false, false≢true, not-eq-not}
use mathlib.Core.List.{List, [], ◌∷◌}
use mathlib.Core.Logic.{◌↔◌}
use Prim.Native.Nat.{ℕ, suc, ◌+◌, ◌-◌, ◌≤◌, ◌<◌, zero-le}
use native.Mathlib.Omega.{arith}
use lib.Dec.{ltb}
use lib.ListN.{length, take, drop, get_or, length-take, drop_of_length-le}
use lib.Seq.{take-nil}
use borrow.Author.Tests.{lt-ltb, le-ltb, ltb-true, ltb-false, not-true}
use Rattle.std.specs.Prelude.{Option, Result, Ok, Err}
use Rattle.ground.specs.declared.refusal.Refusal.{Refusal}
use Rattle.ground.specs.declared.refusal.Refusal.TheVariants.{BadState}
use Rattle.ground.specs.Refusals.{number, Keeps}
use Rattle.ground.proofs.Laws.Choice.{cond-elim, by-test, or_elim, or-none}
use Rattle.ground.proofs.Laws.Lists.{drop-next}
use Rattle.checks.specs.declared.kind.Check.{Check}
use Rattle.wire_spec.specs.Limits.{most_content}
use Rattle.link_spec.specs.declared.event.Verdict.{Verdict}
use Rattle.link_spec.specs.declared.station.Station.{Station}
use Rattle.link_spec.specs.declared.station.Station.TheVariants.{Point, Addressed}
use Rattle.link_spec.specs.declared.receiver.Turn.{Turn}
use Rattle.link_spec.specs.declared.receiver.Turn.TheVariants.{Rest, Begin, Wait, Keep, Stop, Tell}
use Rattle.link_spec.specs.declared.receiver.Receiver.{Receiver}
use Rattle.link_spec.specs.declared.receiver.Heard.{Heard}
use Rattle.link_spec.specs.Station.{check_on, has_address}
use Rattle.link_spec.specs.Events.{NONE, named, happened, silent, event_told, verdict}
use Rattle.link_spec.specs.Receiving.{so_far, turn_at, moved, has_event, outcome, outcome_at, said_of, heard, bad_receiver, not_heard, Said, saying, received, BadReceiver, over, no_station, ReceiverTable, bad_state, hears_piece}
use Rattle.link_spec.proofs.Laws.Address.{no-station-is}
use Rattle.link_spec.proofs.Laws.Turning.{Sound}
use Rattle.link_spec.proofs.Laws.Events.{some-happens}
use Rattle.link_spec.proofs.Laws.Fit.{outcome-length, Leaves, leaves_all, leaves-then, sound-at, leaves_at, Fit, fit-moved}

-- ---- the piece byte by byte

-- what holds at the piece's end and at an event, and goes from each byte with no event to the bytes before, holds of what was heard
module _ (P : ℕ → Receiver → List ℕ → Said → Type 0)
    (out : (taken : ℕ) (s : Receiver) → P taken s [] (said_of s silent taken))
    (event : (taken : ℕ) (s : Receiver) (b : ℕ) (bs : List ℕ) → has_event (turn_at s b) ≡ true
    → P taken s (b ∷ bs) (said_of (moved s (turn_at s b)) (outcome_at s (turn_at s b)) (taken + 1)))
    (on : (taken : ℕ) (s : Receiver) (b : ℕ) (bs : List ℕ) (said : Said) → has_event (turn_at s b) ≡ false
    → P (taken + 1) (moved s (turn_at s b)) bs said → P taken s (b ∷ bs) said) where
  pub heard-elim : (piece : List ℕ) (taken : ℕ) (s : Receiver) → P taken s piece (heard taken s piece)
  unfolding heard
  heard-elim [] taken s = out taken s
  heard-elim (b ∷ bs) taken s =
      let t = turn_at s b in
      let rest = heard-elim bs (taken + 1) (moved s t) in
      cond-elim (P taken s (b ∷ bs)) (has_event t) (event taken s b bs) (λ n. on taken s b bs (heard (taken + 1) (moved s t) bs) n rest)

-- ---- row 4 of the refusal table: when, and else the piece is heard

pub bad-is : (s : Receiver) → (bad_receiver s ≡ true) ↔ BadReceiver s
bad-is s = (
  or_elim (ltb most_content s.count) (not (has_address s.station)) (λ t. over (ltb-true most_content s.count t))
      (λ t. of s.station refl (not-true (has_address s.station) t)),
  back,
)
  where
    of : (station : Station) → s.station ≡ station → has_address station ≡ false → BadReceiver s
    of Point is bad = absurd (true≢false bad)
    of (Addressed own) is bad = no_station is ((no-station-is own).0 bad)

    back : BadReceiver s → bad_receiver s ≡ true
    back (over many) = rw (lt-ltb most_content s.count many)
    back (no_station {own} is bad) = rw (is, (no-station-is own).1 bad, or-true)

module _ (s : Receiver) (piece : List ℕ) where
  pub refuses-bad : bad_receiver s ≡ true → received s piece ≡ not_heard s
  unfolding received
  refuses-bad bad = rw bad

  pub hears : bad_receiver s ≡ false → received s piece ≡ heard 0 s piece
  unfolding received
  hears good = rw good

  pub by-table : ReceiverTable s piece (received s piece)
  unfolding received
  by-table =
      cond-elim (ReceiverTable s piece) (bad_receiver s) (λ bad. bad_state ((bad-is s).0 bad))
      (λ good. hears_piece (λ bad. true≢false (sym ((bad-is s).1 bad) ∙ good)))

  pub table-only : {said : Said} → ReceiverTable s piece said → said ≡ received s piece
  table-only (bad_state bad) = sym (refuses-bad ((bad-is s).1 bad))
  table-only (hears_piece good) = sym (hears ((not-eq-not {b = false}).0 (λ (bad : bad_receiver s ≡ true). good ((bad-is s).0 bad))))

  -- and only then
  pub refused-only : (received s piece).refusal ≡ cond (bad_receiver s) (number BadState) 0
  unfolding received
  refused-only =
      by-test (λ (t : Bool). (cond t (not_heard s) (heard 0 s piece)).refusal ≡ cond t (number BadState) 0) (bad_receiver s) (λ bad. refl)
      (λ good. heard-elim (λ (n : ℕ) (r : Receiver) (p : List ℕ) (said : Said). said.refusal ≡ 0) (λ n r. refl) (λ n r b bs e. refl)
      (λ n r b bs said e h. h) piece 0 s)

-- a receiver that no call refuses has no more content than there is place for
pub good-count : (s : Receiver) → bad_receiver s ≡ false → s.count ≤ most_content
good-count s good = ltb-false most_content s.count (or-none (ltb most_content s.count) (not (has_address s.station)) good).0

-- a refused call leaves the receiver as before
pub received-keeps : (s : Receiver) (piece : List ℕ) → Keeps (received s piece).refusal s (received s piece).receiver
unfolding received
received-keeps s piece =
    by-test (λ (t : Bool). (cond t (not_heard s) (heard 0 s piece)).refusal ≡ cond t (number BadState) 0
    → Keeps (cond t (not_heard s) (heard 0 s piece)).refusal s (cond t (not_heard s) (heard 0 s piece)).receiver) (bad_receiver s)
    (λ bad says refused. refl) (λ good says refused. absurd (refused says)) (refused-only s piece)

-- every call has a result
answer : Receiver → Option Verdict → ℕ → Result Heard Refusal
answer s v taken = Ok (record { receiver = s; told = v; content = s.content; taken = taken })

heard-answers : (first : Receiver) (piece : List ℕ) (taken : ℕ) (s : Receiver) → (r : Result Heard Refusal) × (saying first r ≡ heard taken s piece)
unfolding answer
heard-answers first =
    heard-elim (λ (taken : ℕ) (s : Receiver) (piece : List ℕ) (said : Said). (r : Result Heard Refusal) × (saying first r ≡ said))
    (λ taken s. (answer s silent taken, refl))
    (λ taken s b bs y. (answer (moved s (turn_at s b)) (outcome_at s (turn_at s b)) (taken + 1), refl))
    (λ taken s b bs said n r. r)

pub received-answers : (s : Receiver) (piece : List ℕ) → (r : Result Heard Refusal) × (saying s r ≡ received s piece)
unfolding received
received-answers s piece =
    cond-elim (λ (said : Said). (r : Result Heard Refusal) × (saying s r ≡ said)) (bad_receiver s) (λ bad. (Err BadState, refl))
    (λ good. heard-answers s piece 0 s)

-- an empty piece changes nothing
pub empty-piece : (s : Receiver) → (received s []).receiver ≡ s × (received s []).event ≡ NONE × (received s []).taken ≡ 0
unfolding received heard
empty-piece s =
    cond-elim (λ (said : Said). said.receiver ≡ s × said.event ≡ NONE × said.taken ≡ 0) (bad_receiver s) (λ t. (refl, refl, refl))
    (λ f. (refl, refl, refl))

-- only the bytes that were taken count: a call on just these answers the same
heard-prefix : (piece : List ℕ) (taken : ℕ) (s : Receiver) → let said = heard taken s piece in
    (taken ≤ said.taken) × (heard taken s (take (said.taken - taken) piece) ≡ said)
unfolding heard
heard-prefix =
    heard-elim
    (λ (taken : ℕ) (s : Receiver) (piece : List ℕ) (said : Said). (taken ≤ said.taken)
    × (heard taken s (take (said.taken - taken) piece) ≡ said))
    (λ taken s. (omega arith, rw (take-nil {A = ℕ} (taken - taken)) refl))
    (λ taken s b bs y. let one : taken + 1 - taken ≡ 1 = omega arith in (omega arith, rw (one, y) refl))
    (λ taken s b bs said n h. let next : said.taken - taken ≡ suc (said.taken - (taken + 1)) = omega (arith, h.0) in
    (omega (arith, h.0), rw (next, n) h.1))

pub received-prefix : (s : Receiver) (piece : List ℕ) → bad_receiver s ≡ false → received s (take (received s piece).taken piece) ≡ received s piece
received-prefix s piece good =
    let none : (heard 0 s piece).taken - 0 ≡ (heard 0 s piece).taken = omega arith in
    rw (hears s piece good, hears s (take (heard 0 s piece).taken piece) good) (rw none at (heard-prefix piece 0 s).1)

-- ---- what a call takes

-- a turn with an event tells something
turn-happens : (check : Check) (k : List ℕ) (t : Turn) → has_event t ≡ true → happened (named (event_told (outcome check k t))) ≡ true
unfolding outcome
turn-happens check k Rest y = absurd (false≢true y)
turn-happens check k Begin y = absurd (false≢true y)
turn-happens check k Wait y = absurd (false≢true y)
turn-happens check k (Keep b) y = absurd (false≢true y)
turn-happens check k Stop y = some-happens (verdict check k).event
turn-happens check k (Tell why) y = some-happens why

pub event-happens : (s : Receiver) (b : ℕ) → has_event (turn_at s b) ≡ true → happened (named (event_told (outcome_at s (turn_at s b)))) ≡ true
event-happens s b = turn-happens (check_on s.station) (so_far s) (turn_at s b)

-- a call takes no byte back, none after the piece, at least one of a piece that has one, and all where it tells nothing
pub record Takes (taken : ℕ) (piece : List ℕ) (said : Said) : Type 0 where
  pub least : taken ≤ said.taken
  pub most : said.taken ≤ taken + length piece
  pub some : 0 < length piece → taken < said.taken
  pub all : happened said.event ≡ false → said.taken ≡ taken + length piece

heard-takes : (piece : List ℕ) (taken : ℕ) (s : Receiver) → Takes taken piece (heard taken s piece)
heard-takes =
    heard-elim (λ (taken : ℕ) (s : Receiver) (piece : List ℕ) (said : Said). Takes taken piece said)
    (λ taken s. record { least = omega arith; most = omega arith; some = λ h. absurd (omega arith); all = λ q. omega arith })
    (λ taken s b bs y. record {
      least = omega arith;
      most = omega arith;
      some = λ h. omega arith;
      all = λ q. absurd (true≢false (sym (event-happens s b y) ∙ q));
    })
    (λ taken s b bs said n r. record {
      least = omega (arith, r.least);
      most = omega (arith, r.most);
      some = λ h. omega (arith, r.least);
      all = λ q. omega (arith, r.all q);
    })

-- of a call that is not refused
pub received-takes : (s : Receiver) (piece : List ℕ) → bad_receiver s ≡ false → Takes 0 piece (received s piece)
received-takes s piece good = rw (hears s piece good) (heard-takes piece 0 s)

pub takes_one : (s : Receiver) → bad_receiver s ≡ false → (b : ℕ) → (received s (b ∷ [])).taken ≡ 1
takes_one s good b = let t = received-takes s (b ∷ []) good in omega (arith, t.most, t.some (omega arith))

-- ---- what it leaves and carries

-- a receiver that is not refused stays so, so after a fresh one no call is refused
record Stays (s : Receiver) (said : Said) : Type 0 where
  leaves : Leaves s said.receiver
  carries : said.length ≤ most_content

heard-stays : (piece : List ℕ) (taken : ℕ) (s : Receiver) → s.count ≤ most_content → Stays s (heard taken s piece)
heard-stays =
    heard-elim (λ (taken : ℕ) (s : Receiver) (piece : List ℕ) (said : Said). s.count ≤ most_content → Stays s said)
    (λ taken s within. record { leaves = leaves_all s; carries = zero-le })
    (λ taken s b bs y within. record {
      leaves = leaves_at s b;
      carries = omega (arith, outcome-length (check_on s.station) (so_far s) (turn_at s b), length-take s.count s.content);
    })
    (λ taken s b bs said n h within. let r = h ((leaves_at s b).count within) in
    record { leaves = leaves-then (leaves_at s b) r.leaves; carries = r.carries })

pub stays-good : (s : Receiver) (piece : List ℕ) → bad_receiver s ≡ false → bad_receiver (received s piece).receiver ≡ false
stays-good s piece good =
    let parts = or-none (ltb most_content s.count) (not (has_address s.station)) good in
    let within = ltb-false most_content s.count parts.0 in
    let l = (heard-stays piece 0 s within).leaves in
    rw (hears s piece good, le-ltb most_content (heard 0 s piece).receiver.count (l.count within), l.station) parts.1

-- the station stays
pub keeps-station : (s : Receiver) (piece : List ℕ) → bad_receiver s ≡ false → (received s piece).receiver.station ≡ s.station
keeps-station s piece good = rw (hears s piece good) (heard-stays piece 0 s (good-count s good)).leaves.station

-- what an event carries lies within the answer's content
pub length-within : (s : Receiver) (piece : List ℕ) → (received s piece).length ≤ most_content
unfolding received
length-within s piece =
    cond-elim (λ (said : Said). said.length ≤ most_content) (bad_receiver s) (λ t. zero-le)
    (λ f. (heard-stays piece 0 s
    (ltb-false most_content s.count (or-none (ltb most_content s.count) (not (has_address s.station)) f).0)).carries)

-- ---- how the loop goes

-- Some bytes were taken, and the receiver is now this one: what is left of the piece gives what the whole piece gave from the first
-- receiver on.
pub record Going (piece : List ℕ) (first : Receiver) (taken : ℕ) (s : Receiver) : Type 0 where
  pub part : taken ≤ length piece
  pub fit : Fit first.station s
  pub same : heard taken s (drop taken piece) ≡ heard 0 first piece

module _ {piece : List ℕ} {first : Receiver} {taken : ℕ} {s : Receiver} (going : Going piece first taken s) where
  -- at the piece's end
  pub runs-out : length piece ≤ taken → said_of s silent taken ≡ heard 0 first piece
  unfolding heard
  runs-out end = rw (drop_of_length-le piece end) at going.same

  module _ {t : Turn} (more : taken < length piece) (is : t ≡ turn_at s (get_or piece taken 0)) where
    -- a byte with no event
    pub next-byte : has_event t ≡ false → Going piece first (taken + 1) (moved s t)
    unfolding heard
    next-byte none =
        record {
          part = omega arith;
          fit = fit-moved going.fit t (subst⁻¹ (Sound s.count) is (sound-at s (get_or piece taken 0)));
          same = rw (drop-next piece taken more, ← is, none) at going.same;
        }

    -- the byte of an event
    pub breaks-off : has_event t ≡ true → said_of (moved s t) (outcome_at s t) (taken + 1) ≡ heard 0 first piece
    unfolding heard
    breaks-off one = rw (drop-next piece taken more, ← is, one) at going.same
