-- What a FRAME carries is what stands before its check, and right after it stands the check.
-- Assumes nothing.
use mathlib.Core.Path.{◌≡◌, sym, ap, subst, ◌∙◌}
use mathlib.Core.Bool.{false}
use mathlib.Core.List.{List}
use Prim.Native.Nat.{ℕ, ◌+◌, ◌≤◌}
use native.Mathlib.Decide.{dec_le}
use native.Mathlib.Omega.{arith}
use lib.ListN.{length, take, length-take}
use lib.Seq.{length-take-le, take_all, take-length, take-take}
use Rattle.std.specs.Prelude.{Some}
use Rattle.ground.proofs.Laws.Choice.{no-case}
use Rattle.checks.specs.Check.{check_length, with_check, front}
use Rattle.checks.proofs.Laws.Check.{length-with_check}
use Rattle.wire_spec.specs.Limits.{most_content}
use Rattle.link_spec.specs.declared.station.Station.{Station}
use Rattle.link_spec.specs.declared.receiver.Receiver.{Receiver}
use Rattle.link_spec.specs.declared.receiver.Phase.{Phase}
use Rattle.link_spec.specs.declared.receiver.Turn.{Turn}
use Rattle.link_spec.specs.Station.{check_on, checked}
use Rattle.link_spec.specs.Events.{FRAME, named, verdict}
use Rattle.link_spec.specs.Rules.{ByRule, ignored, begins, stops, address, no_address, waits, plain, pair, no_pair, long_plain, long_pair}
use Rattle.link_spec.specs.Receiving.{Said, so_far, moved, outcome, outcome_at, said_of, heard, bad_receiver, received}
use Rattle.link_spec.proofs.Laws.Turning.{turn-rule}
use Rattle.link_spec.proofs.Laws.Fit.{leaves_at}
use Rattle.link_spec.proofs.Laws.Receiving.{heard-elim, hears, good-count}
use Rattle.link_spec.proofs.Laws.Desk.{verdict-frame}

-- what an answer carries, with its check, are the first bytes of its content
pub record Carries (station : Station) (said : Said) : Type 0 where
  pub whole : checked station (take said.length said.content) ≡ take (said.length + check_length (check_on station)) said.content
  pub most : said.length + check_length (check_on station) ≤ most_content

-- as many bytes as were taken of a list are its first bytes
taken-first : (n : ℕ) (l : List ℕ) → take (length (take n l)) l ≡ take n l
taken-first n l = go (dec_le n (length l))
  where
    go : Dec (n ≤ length l) → take (length (take n l)) l ≡ take n l
    go (yes h) = ap (λ (k : ℕ). take k l) (length-take-le n l h)
    go (no h) = let all = take_all n l (omega arith) in ap (λ (k : List ℕ). take (length k) l) all ∙ take-length l ∙ sym all

-- at a stop byte, the content so far is what the FRAME carries with its check
pub stop-content : (s : Receiver) → let v = verdict (check_on s.station) (so_far s) in FRAME ≡ named (Some v.event)
    → checked s.station (take v.length s.content) ≡ so_far s
stop-content s frame =
    let check = check_on s.station in
    let is = verdict-frame check (so_far s) frame in
    let v = (verdict check (so_far s)).length in
    let short = length-take s.count s.content in
    ap (with_check check) (sym (take-take v s.count s.content (omega (arith, is.within))) ∙ is.carried) ∙ sym is.whole

stop-carries : (s : Receiver) (n : ℕ) → s.count ≤ most_content → let v = verdict (check_on s.station) (so_far s) in FRAME ≡ named (Some v.event)
    → Carries s.station (said_of s (Some v) n)
stop-carries s n few frame =
    let k = so_far s in
    let check = check_on s.station in
    let is = verdict-frame check k frame in
    let v = (verdict check k).length in
    let short = length-take s.count s.content in
    let size : v + check_length check ≡ length k =
    omega (arith, ap length is.whole, length-with_check check (front check k), ap length is.carried, length-take-le v k is.within) in
    record {
      whole = stop-content s frame ∙ sym (taken-first s.count s.content) ∙ ap (λ (m : ℕ). take m s.content) (sym size);
      most = omega arith;
    }

event-carries : (s : Receiver) (b n : ℕ) → s.count ≤ most_content → {phase : Phase} {t : Turn} → ByRule s.station s.count b phase t
    → FRAME ≡ (said_of (moved s t) (outcome_at s t) n).event
    → Carries s.station (said_of (moved s t) (outcome_at s t) n)
unfolding moved outcome
event-carries s b n few (stops e) frame =
    let c = stop-carries s n few frame in
    record { whole = c.whole; most = c.most }
event-carries s b n few (no_address a) frame = no-case (cc)
event-carries s b n few (no_pair over f) frame = no-case (cc)
event-carries s b n few (long_plain l other full) frame = no-case (cc)
event-carries s b n few (long_pair known full) frame = no-case (cc)
event-carries s b n few (ignored f) frame = no-case (cc)
event-carries s b n few (begins e) frame = no-case (cc)
event-carries s b n few (address a) frame = no-case (cc)
event-carries s b n few (waits l e) frame = no-case (cc)
event-carries s b n few (plain l other room) frame = no-case (cc)
event-carries s b n few (pair known room) frame = no-case (cc)

heard-carries : (piece : List ℕ) (taken : ℕ) (s : Receiver) → s.count ≤ most_content → FRAME ≡ (heard taken s piece).event
    → Carries s.station (heard taken s piece)
heard-carries =
    heard-elim
    (λ (taken : ℕ) (s : Receiver) (piece : List ℕ) (said : Said). s.count ≤ most_content → FRAME ≡ said.event → Carries s.station said)
    (λ taken s few frame. no-case (cc))
    (λ taken s b bs y few frame. event-carries s b (taken + 1) few (turn-rule s.station s.phase s.count b) frame)
    (λ taken s b bs said n h few frame. subst (λ (l : Station). Carries l said) (leaves_at s b).station (h ((leaves_at s b).count few) frame))

pub frame-carries : (s : Receiver) (piece : List ℕ) → bad_receiver s ≡ false → FRAME ≡ (received s piece).event
    → Carries s.station (received s piece)
frame-carries s piece good frame =
    let is = hears s piece good in
    subst (Carries s.station) (sym is) (heard-carries piece 0 s (good-count s good) (frame ∙ ap (λ (x : Said). x.event) is))
