-- Which speeds a reader has, what a power-on leaves of one, and which requests a reader does: a fast one all that a request may be, a slow one
-- all but a write of 8, 9 or 10.
-- Assumes nothing.
use mathlib.Core.Path.{◌≡◌, refl, ap, subst, ◌∙◌}
use mathlib.Core.Bool.{Bool, true, false, cond, not, ◌||◌, and-false, false≢true, and-eq-true_iff}
use mathlib.Core.List.{List, [], ◌∷◌}
use Prim.Native.Nat.{ℕ, ◌≤◌}
use native.Mathlib.Omega.{arith}
use borrow.Author.Tests.{ltb-true, ltb-false, lt-ltb, le-ltb}
use Rattle.std.specs.Prelude.{Result, Ok, Err}
use Rattle.ground.proofs.Laws.Choice.{by-test, between-true, between_is, no-case}
use Rattle.request_spec.specs.declared.parameter.Parameter.TheVariants.{Speed, Settings, Cell}
use Rattle.request_spec.specs.declared.command.Command.{Command}
use Rattle.request_spec.specs.declared.command.Command.TheVariants.{Write}
use Rattle.request_spec.specs.declared.command.Fault.{Fault}
use Rattle.request_spec.specs.declared.command.Fault.TheVariants.{BadData}
use Rattle.request_spec.specs.Parameters.{is_speed, of_speed}
use Rattle.request_spec.specs.Acceptance as table
use Rattle.request_spec.specs.Acceptance.{acceptance, FitsCommand, Accepts}
use Rattle.request_spec.proofs.Laws.Acceptance.{accepts, accepted, fits-command}
use Rattle.reader_spec.specs.Speeds.{is_above, has_speed, powered_speed, serves, served_as, served, WritesAbove, writes_above}

-- ---- the speeds that a reader has

-- a fast reader's are 3..10, a slow one's 3..7
pub has_within : (fast : Bool) (v : ℕ) → has_speed fast v ≡ true → (3 ≤ v) × (v ≤ 10)
has_within fast v has = between-true 3 10 v ((and-eq-true_iff (is_speed v) (fast || not (is_above v))).0 has).0

pub slow-within : (v : ℕ) → has_speed false v ≡ true → v ≤ 7
slow-within v has =
    by-test (λ (t : Bool). not t ≡ true → v ≤ 7) (is_above v) (λ _ never. absurd (false≢true never)) (λ f _. ltb-false 7 v f)
    ((and-eq-true_iff (is_speed v) (not (is_above v))).0 has).1

-- ---- a power-on

pub speed-stays : (v : ℕ) → v ≤ 7 → powered_speed v ≡ v
speed-stays v few = rw (le-ltb 7 v few)

pub speed-falls : (v : ℕ) → 8 ≤ v → powered_speed v ≡ 3
speed-falls v many = rw (lt-ltb 7 v many)

-- a second one leaves what the first one left
pub speed-twice : (v : ℕ) → powered_speed (powered_speed v) ≡ powered_speed v
speed-twice v =
    by-test (λ (t : Bool). is_above v ≡ t → powered_speed (cond t 3 v) ≡ cond t 3 v) (is_above v) (λ _ _. refl) (λ _ below. rw below) refl

-- and that is a speed that every reader has
pub powered-slow : (fast : Bool) (v : ℕ) → has_speed fast v ≡ true → has_speed false (powered_speed v) ≡ true
powered-slow fast v has =
    by-test (λ (t : Bool). is_above v ≡ t → has_speed false (cond t 3 v) ≡ true) (is_above v) (λ _ _. refl)
    (λ _ f. rw (((and-eq-true_iff (is_speed v) (fast || not (is_above v))).0 has).0, f)) refl

pub powered-has : (fast : Bool) (v : ℕ) → has_speed fast v ≡ true → has_speed fast (powered_speed v) ≡ true
powered-has fast v has = slow-has fast (powered_speed v) (powered-slow fast v has)
  where
    slow-has : (fast : Bool) (w : ℕ) → has_speed false w ≡ true → has_speed fast w ≡ true
    slow-has false w has = has
    slow-has true w has = rw ((and-eq-true_iff (is_speed w) (not (is_above w))).0 has).0 refl

-- ---- what a reader does of what a request may be

module _ (fast : Bool) («data» : List ℕ) where
  abbrev IsServed : Result Command Fault → Type 0
  IsServed (Ok command) = serves fast command «data» ≡ true
  IsServed (Err fault) = Unit {0}

  -- what is done was accepted
  pub served-was : (k : Result Command Fault) {command : Command} → served_as fast «data» k ≡ Ok command
      → (k ≡ Ok command) × (serves fast command «data» ≡ true)
  served-was (Err fault) is = no-case (cc is)
  served-was (Ok other) {command} is =
      by-test
      (λ (t : Bool). serves fast other «data» ≡ t → cond t (Ok other) (Err BadData) ≡ Ok command
      → (◌≡◌ {A = Result Command Fault} (Ok other) (Ok command)) × (serves fast command «data» ≡ true))
      (serves fast other «data») (λ _ able is. (is, subst IsServed is able)) (λ _ _ is. no-case (cc is)) refl is

-- so its data is that of the command
pub served-fits : (fast : Bool) (code : ℕ) («data» : List ℕ) {command : Command} → served fast code «data» ≡ Ok command
    → FitsCommand command «data»
served-fits fast code «data» done = fits-command (accepts code «data» (served-was fast «data» (acceptance code «data») done).0)

-- a request of the table is done, unless the reader is slow and it writes a speed of 8..10
pub serves-row : (fast : Bool) {code : ℕ} {«data» : List ℕ} {command : Command} → Accepts code «data» command
    → (fast ≡ false → WritesAbove code «data» → ⊥)
    → serves fast command «data» ≡ true
serves-row fast table.header few = refl
serves-row fast (table.write Speed value (of_speed {v} least most)) few =
    (and-eq-true_iff (is_speed v) (fast || not (is_above v))).1 (between_is 3 10 v least most, runs fast few)
  where
    runs : (fast : Bool) → (fast ≡ false → WritesAbove 0x01 (0x02 ∷ v ∷ []) → ⊥) → (fast || not (is_above v)) ≡ true
    runs true few = refl
    runs false few =
        by-test (λ (t : Bool). not t ≡ true) (is_above v) (λ above. absurd (few refl (writes_above (ltb-true 7 v above) most))) (λ _. refl)
serves-row fast (table.write Settings value fits) few = refl
serves-row fast (table.write Cell value fits) few = refl
serves-row fast (table.read p) few = refl
serves-row fast table.marin few = refl
serves-row fast table.hid few = refl
serves-row fast table.motorola few = refl

pub served-row : (fast : Bool) {code : ℕ} {«data» : List ℕ} {command : Command} → Accepts code «data» command
    → (fast ≡ false → WritesAbove code «data» → ⊥)
    → served fast code «data» ≡ Ok command
served-row fast {«data» = «data»} {command = command} row few =
    ap (served_as fast «data») (accepted row)
    ∙ ap (λ (t : Bool). cond t (Ok command) (Err BadData)) (serves-row fast row few)

-- such a write may be a request, and to a slow reader it is bad data
pub above-row : {code : ℕ} {«data» : List ℕ} → WritesAbove code «data» → Accepts code «data» (Write Speed)
above-row (writes_above {v} least most) = table.write Speed (v ∷ []) (of_speed {v = v} (omega (arith, least)) most)

pub above-faulty : {code : ℕ} {«data» : List ℕ} → WritesAbove code «data» → served false code «data» ≡ Err BadData
above-faulty (writes_above {v} least most) =
    ap (served_as false (0x02 ∷ v ∷ [])) (accepted (above-row (writes_above least most))) ∙ rw (lt-ltb 7 v least, and-false (is_speed v))
