-- What request L2 promises holds: a power-on by what it does to each field, a session by what its state agrees with, and a request by what the
-- reader makes of it.
-- Assumes nothing.
use mathlib.Core.Path.{◌≡◌, refl, sym, ap, subst, subst⁻¹, ◌∙◌}
use mathlib.Core.Bool.{Bool, true, false, true≢false}
use mathlib.Core.List.{List, ◌++◌}
use Prim.Native.Nat.{ℕ}
use native.Mathlib.Omega.{arith}
use Rattle.std.specs.Prelude.{Result}
use Rattle.ground.specs.declared.refusal.Refusal.{Refusal}
use Rattle.wire_spec.specs.Writing.{After}
use Rattle.link_spec.specs.Hearing.{Hearing}
use Rattle.request_spec.specs.declared.parameter.Parameter.{Parameter}
use Rattle.request_spec.specs.declared.parameter.Parameter.TheVariants.{Speed}
use Rattle.request_spec.specs.declared.command.Command.{Command}
use Rattle.request_spec.specs.Acceptance.{Accepts}
use Rattle.request_spec.specs.Replies.{NACK, sign, identifier_of}
use Rattle.request_spec.proofs.Laws.Acceptance.{accepts}
use Rattle.request_spec.proofs.Laws.Requesting.{written-asks}
use Rattle.reader_spec.specs.declared.reader.Parameters.{Parameters}
use Rattle.reader_spec.specs.declared.reader.Reader.{Reader}
use Rattle.reader_spec.specs.Speeds.{has_speed, powered_speed}
use Rattle.reader_spec.specs.Parameters.{value_of, after_power}
use Rattle.reader_spec.specs.State.{state_of, BadState}
use Rattle.reader_spec.specs.Replies.{reply_image}
use Rattle.reader_spec.specs.Answering.{powering, powered_on, Answered}
use Rattle.reader_spec.specs.Sessions.{History, powered_value, powered_by, Call, outcome, bytes_sent, ReaderSession, made_fast}
use Rattle.reader_spec.proofs.Laws.Speeds.{has_within, slow-within, speed-stays, speed-falls, powered-slow, above-row}
use Rattle.reader_spec.proofs.Laws.Parameters.{value-powered}
use Rattle.reader_spec.proofs.Laws.State.{good-state, no_row, good-speed}
use Rattle.reader_spec.proofs.Laws.Answering.{powers-on, four-only}
use Rattle.reader_spec.proofs.Laws.Sessions.{session-agrees, told-made, made-fast, session-good, power-fine}
use Rattle.demands.specs.Exchanging.{Asks, HeardAndRead}
use Rattle.demands.specs.Powering.{Common, Leaves, PoweredFrom, ToldFrom, Typed, AnswersTyped, NeverAbove, Request2}
use Rattle.demands.proofs.Laws.Exchange.{nack-exchange}
use Rattle.demands.proofs.Laws.Requests.{request-executed, speed-nacked}

-- ---- speeds

slow-common : (v : ℕ) → has_speed false v ≡ true → Common v
slow-common v has = record { least = (has_within false v has).0; most = slow-within v has }

powered-common : (fast : Bool) (v : ℕ) → has_speed fast v ≡ true → Common (powered_speed v)
powered-common fast v has = slow-common (powered_speed v) (powered-slow fast v has)

-- ---- a power-on

-- what it leaves of the values, where the reader has its speed
values-left : (ps : Parameters) (fast : Bool) → has_speed fast ps.speed ≡ true → Leaves (value_of ps) (λ (p : Parameter). powered_value p (value_of ps p))
values-left ps fast has =
    record {
      old = ps.speed;
      old_speed = refl;
      new = powered_speed ps.speed;
      new_speed = refl;
      stays = speed-stays ps.speed;
      falls = speed-falls ps.speed;
      speed = powered-common fast ps.speed has;
      settings = refl;
      cell = refl;
    }

powered-from : (s : Reader) → (BadState (state_of s) → ⊥) → (r : Result Reader Refusal) → powering s r ≡ powered_on (state_of s)
    → PoweredFrom (state_of s) (powering s r)
powered-from s good r says =
    let fine = no_row (state_of s) good in
    let left : value_of (after_power s.parameters) ≡ (λ (p : Parameter). powered_value p (value_of s.parameters p)) =
    λ i p. value-powered s.parameters p i in
    subst⁻¹ (PoweredFrom (state_of s)) (says ∙ powers-on (state_of s) fine)
    (record {
      fine = refl;
      values = subst⁻¹ (Leaves (value_of s.parameters)) left (values-left s.parameters s.fast (good-speed (state_of s) fine));
      fast = refl;
      forgets = refl;
    })

told-from : {alone : Bool} {s : Reader} {held : List ℕ} {h : History} → ReaderSession alone s held h → (r : Result Reader Refusal)
    → powering s r ≡ powered_on (state_of s)
    → ToldFrom h (powered_by h (powering s r).refusal)
told-from {s = s} {h = h} se r says =
    let a = session-agrees se in
    subst⁻¹ (λ (n : ℕ). ToldFrom h (powered_by h n)) (power-fine se r says)
    (record {
      values = subst (λ (value : Parameter → List ℕ). Leaves value (λ (p : Parameter). powered_value p (value p))) a.values
          (values-left s.parameters s.fast a.speed);
      fast = refl;
      forgets = refl;
    })

-- ---- a request

module _ {alone : Bool} {s : Reader} {held : List ℕ} {h : History} (se : ReaderSession alone s held h) (c : Call alone h s held)
    (identifier code : ℕ) («data» : List ℕ) (asks : Asks c identifier code «data») where
  typed-row : Typed identifier code «data» → (command : Command) × Accepts code «data» command
  typed-row t =
      let (command, asked) = written-asks identifier code «data» t.out (sym (ap (λ (a : After). a.tally.refusal) t.says) ∙ t.fine) in
      (command, accepts code «data» asked)

  typed-answered : AnswersTyped (made_fast se) c identifier code «data»
  typed-answered =
      let made = told-made se in
      record {
        fast = λ is t. let (command, row) = typed-row t in
            (command, request-executed se c identifier code «data» asks row (λ slow. absurd (true≢false (sym is ∙ sym made ∙ slow))));
        slow = λ is t. (
          (λ (command, x) write. true≢false (sym x.executed ∙ (speed-nacked se c identifier code «data» asks (made ∙ is) write).idle)),
          (λ few. let (command, row) = typed-row t in (command, request-executed se c identifier code «data» asks row (λ _. few))),
        );
        read = λ is write before rest {m} {all} fr hearing.
            let bytes : bytes_sent c ≡ reply_image identifier sign (NACK 3) =
            (speed-nacked se c identifier code «data» asks (made ∙ is) write).sends
            ∙ ap (λ (l : List ℕ). reply_image (identifier_of l) sign (NACK 3)) asks.content in
            subst⁻¹ (λ (l : List ℕ). HeardAndRead identifier code «data» before all l (NACK 3)) bytes
            (nack-exchange 3 identifier code «data» before rest (omega arith) (omega arith) (above-row write) fr
            (subst (λ (l : List ℕ). Hearing (before ++ (l ++ rest)) m 0 all) bytes hearing));
      }

-- ---- what calls lead to

slow-never : {alone : Bool} {s : Reader} {held : List ℕ} {h : History} (se : ReaderSession alone s held h) → made_fast se ≡ false → NeverAbove s h
slow-never {s = s} se slow =
    let a = session-agrees se in
    record {
      speed = slow-common s.parameters.speed
          (subst (λ (fast : Bool). has_speed fast s.parameters.speed ≡ true) (made-fast se ∙ slow) a.speed);
      told = sym (ap (λ (value : Parameter → List ℕ). value Speed) a.values);
    }

never-bad : {alone : Bool} {s : Reader} {held : List ℕ} {h : History} → ReaderSession alone s held h → (c : Call alone h s held)
    → (outcome c).refusal ≡ 4
    → ⊥
never-bad {s = s} se c is =
    good-state (session-good se) (four-only (state_of s) c.input c.lent (sym (ap (λ (a : Answered). a.refusal) c.says) ∙ is))

pub request-2 : Request2
request-2 =
    record {
      powers = powered-from;
      told = told-from;
      answers = typed-answered;
      kind = λ se. (made-fast se, told-made se);
      never = slow-never;
      good = never-bad;
    }
