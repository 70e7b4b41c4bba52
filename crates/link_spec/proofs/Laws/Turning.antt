-- A receiver's turn follows the table of its rules, and the table leaves no other turn; a byte that is kept has room, what is told is an event, and
-- what is ignored comes outside a frame.
-- Assumes nothing.
use mathlib.Core.Path.{◌≡◌, refl, sym, ap, subst⁻¹, ◌∙◌}
use mathlib.Core.Bool.{Bool, true, false}
use Prim.Native.Nat.{ℕ, zero, suc, ◌-◌, ◌≤◌, ◌<◌}
use native.Mathlib.Omega.{arith}
use lib.Dec.{eqb, ltb, leb, lit≤, eqb-suc-zero}
use borrow.Author.Tests.{eqb-true, eqb-false, leb-true, leb-false, ltb-true, ltb-false, lt-ltb, le-ltb, le-leb, lt-leb, ne_eqb}
use Rattle.std.specs.Prelude.{Some}
use Rattle.ground.proofs.Laws.Choice.{cond-elim}
use Rattle.wire_spec.specs.Limits.{most_content}
use Rattle.wire_spec.specs.Stuffing.{special}
use Rattle.wire_spec.specs.Image.{start, stop}
use Rattle.wire_spec.proofs.Laws.Stuffing.{plain-ne}
use Rattle.link_spec.specs.declared.event.Event.TheVariants.{Long, Addr}
use Rattle.link_spec.specs.declared.station.Station.{Station}
use Rattle.link_spec.specs.declared.station.Station.TheVariants.{Point, Addressed}
use Rattle.link_spec.specs.declared.receiver.Phase.{Phase}
use Rattle.link_spec.specs.declared.receiver.Phase.TheVariants.{Outside, Inside, Pending}
use Rattle.link_spec.specs.declared.receiver.Turn.{Turn}
use Rattle.link_spec.specs.declared.receiver.Turn.TheVariants.{Rest, Begin, Wait, Keep, Stop, Tell}
use Rattle.link_spec.specs.Address.{takes}
use Rattle.link_spec.specs.Events.{named, happened}
use Rattle.link_spec.specs.Turning.{kept, plain as plain_turn, partner, content_byte, inside, within, turn}
use Rattle.link_spec.specs.Rules.{Address, first, Later, on_point, after_first, ByRule, ignored, begins, stops, address, no_address, waits, plain, pair, no_pair, long_plain, long_pair}

-- after the address the addressed line is like the point line
later-content : {station : Station} {count : ℕ} (b : ℕ) → Later station count → content_byte station count b ≡ plain_turn count b
unfolding content_byte
later-content b on_point = refl
later-content b (after_first {count}) = rw (eqb-suc-zero count)

-- ---- a turn follows the table

module _ (station : Station) (count b : ℕ) where
  -- a byte is kept if there is room for it
  kept_rule : {phase : Phase} (x : ℕ)
      → (count < most_content → ByRule station count b phase (Keep x))
      → (most_content ≤ count → ByRule station count b phase (Tell Long))
      → ByRule station count b phase (kept count x)
  unfolding kept
  kept_rule {phase} x f g =
      cond-elim (ByRule station count b phase) (ltb count most_content) (λ t. f (ltb-true count most_content t))
      (λ t. g (ltb-false count most_content t))

  plain-rule : Later station count → eqb b start ≡ false → eqb b stop ≡ false → ByRule station count b Inside (plain_turn count b)
  unfolding plain_turn
  plain-rule later f g =
      cond-elim (ByRule station count b Inside) (eqb b 0xFF) (λ t. waits later (eqb-true b 0xFF t))
      (λ h. let other : special b ≡ false = rw (f, g, h) in
      kept_rule b (plain later other) (long_plain later other))

  partner-rule : eqb b start ≡ false → ByRule station count b Pending (partner count b)
  unfolding partner
  partner-rule f =
      cond-elim (ByRule station count b Pending) (leb b 0x02)
      (λ t. let known = leb-true b 0x02 t in
      kept_rule (0xFF - b) (pair known) (long_pair known))
      (λ g. no_pair (leb-false b 0x02 g) (eqb-false b start f))

content-rule : (station : Station) (count b : ℕ) → eqb b start ≡ false → eqb b stop ≡ false → ByRule station count b Inside (content_byte station count b)
unfolding content_byte kept
content-rule Point count b f g = plain-rule Point count b on_point f g
content-rule (Addressed own) zero b f g =
    cond-elim (ByRule (Addressed own) zero b Inside) (takes own b)
    (λ t. address (first (eqb-false b start f) (eqb-false b stop g) t))
    (λ t. no_address (first (eqb-false b start f) (eqb-false b stop g) t))
content-rule (Addressed own) (suc count) b f g =
    rw (later-content b (after_first {own = own} {count = count})) (plain-rule (Addressed own) (suc count) b after_first f g)

within-rule : (station : Station) (phase : Phase) (count b : ℕ) → eqb b start ≡ false → ByRule station count b phase (within station phase count b)
unfolding within inside
within-rule station Outside count b f = ignored (eqb-false b start f)
within-rule station Inside count b f =
    cond-elim (ByRule station count b Inside) (eqb b stop) (λ t. stops (eqb-true b stop t)) (content-rule station count b f)
within-rule station Pending count b f = partner-rule station count b f

pub turn-rule : (station : Station) (phase : Phase) (count b : ℕ) → ByRule station count b phase (turn station phase count b)
unfolding turn
turn-rule station phase count b =
    cond-elim (ByRule station count b phase) (eqb b start) (λ t. begins (eqb-true b start t)) (within-rule station phase count b)

-- ---- and the table leaves no other

kept-is : (count b : ℕ) → count < most_content → Keep b ≡ kept count b
unfolding kept
kept-is count b room = rw (lt-ltb count most_content room)

long-is : (count b : ℕ) → most_content ≤ count → Tell Long ≡ kept count b
unfolding kept
long-is count b full = rw (le-ltb count most_content full)

address_is : {station : Station} {count b : ℕ} → Address station count b true → Keep b ≡ content_byte station count b
unfolding content_byte kept
address_is (first f g t) = rw t

no_address-is : {station : Station} {count b : ℕ} → Address station count b false → Tell Addr ≡ content_byte station count b
unfolding content_byte
no_address-is (first f g t) = rw t

neither : {station : Station} {count b : ℕ} {taken : Bool} → Address station count b taken → (eqb b start ≡ false) × (eqb b stop ≡ false)
neither {b} (first f g t) = (ne_eqb b start f, ne_eqb b stop g)

plain-turn : (station : Station) (count b : ℕ) → Later station count → special b ≡ false → kept count b ≡ turn station Inside count b
unfolding turn within inside plain_turn
plain-turn station count b later other =
    rw (plain-ne b start other refl, plain-ne b stop other refl, later-content b later, plain-ne b 0xFF other refl)

pair_turn : (station : Station) (count b : ℕ) → b ≤ 0x02 → kept count (0xFF - b) ≡ turn station Pending count b
unfolding turn within partner
pair_turn station count b known = rw (ne_eqb b start (omega arith), le-leb b 0x02 known)

pub rule-only : {station : Station} {count b : ℕ} {phase : Phase} {t : Turn} → ByRule station count b phase t → t ≡ turn station phase count b
unfolding turn within inside plain_turn partner
rule-only {b} (ignored f) = rw (ne_eqb b start f)
rule-only (begins e) = rw e
rule-only (stops e) = rw e
rule-only (address a) = rw ((neither a).0, (neither a).1) (address_is a)
rule-only (no_address a) = rw ((neither a).0, (neither a).1) (no_address-is a)
rule-only (waits later e) = rw (e, later-content 0xFF later)
rule-only {station} {count} {b} (plain later other room) = kept-is count b room ∙ plain-turn station count b later other
rule-only {station} {count} {b} (pair known room) = kept-is count (0xFF - b) room ∙ pair_turn station count b known
rule-only {b} (no_pair over f) = rw (ne_eqb b start f, lt-leb b 0x02 over)
rule-only {station} {count} {b} (long_plain later other full) = long-is count b full ∙ plain-turn station count b later other
rule-only {station} {count} {b} (long_pair known full) = long-is count (0xFF - b) full ∙ pair_turn station count b known

-- ---- a byte that is kept has room, and what is told is an event

abbrev pub Sound : ℕ → Turn → Type 0
Sound count Rest = Unit {0}
Sound count Begin = Unit {0}
Sound count Wait = Unit {0}
Sound count (Keep b) = count < most_content
Sound count Stop = Unit {0}
Sound count (Tell why) = happened (named (Some why)) ≡ true

pub address_room : {station : Station} {count b : ℕ} → Address station count b true → count < most_content
address_room (first f g t) = lit≤ tt

rule-sound : {station : Station} {phase : Phase} {count b : ℕ} {t : Turn} → ByRule station count b phase t → Sound count t
rule-sound (ignored f) = tt
rule-sound (begins e) = tt
rule-sound (stops e) = tt
rule-sound (address a) = address_room a
rule-sound (no_address a) = refl
rule-sound (waits later e) = tt
rule-sound (plain later other room) = room
rule-sound (pair known room) = room
rule-sound (no_pair over f) = refl
rule-sound (long_plain later other full) = refl
rule-sound (long_pair known full) = refl

pub turn-sound : (station : Station) (phase : Phase) (count b : ℕ) → Sound count (turn station phase count b)
turn-sound station phase count b = rule-sound (turn-rule station phase count b)

-- the same of a byte that a turn is known to keep
pub keep-room : (station : Station) (phase : Phase) (count b : ℕ) {kept : ℕ} → Keep kept ≡ turn station phase count b → count < most_content
keep-room station phase count b is = subst⁻¹ (Sound count) is (turn-sound station phase count b)

-- ---- a byte that is ignored comes outside a frame, and there every byte but FD is ignored

abbrev Ignoring : Phase → Turn → Type 0
Ignoring phase Rest = phase ≡ Outside
Ignoring phase Begin = Unit {0}
Ignoring phase Wait = Unit {0}
Ignoring phase (Keep b) = Unit {0}
Ignoring phase Stop = Unit {0}
Ignoring phase (Tell why) = Unit {0}

rule-ignoring : {station : Station} {count b : ℕ} {phase : Phase} {t : Turn} → ByRule station count b phase t → Ignoring phase t
rule-ignoring (ignored f) = refl
rule-ignoring (begins e) = tt
rule-ignoring (stops e) = tt
rule-ignoring (address a) = tt
rule-ignoring (no_address a) = tt
rule-ignoring (waits later e) = tt
rule-ignoring (plain later other room) = tt
rule-ignoring (pair known room) = tt
rule-ignoring (no_pair over f) = tt
rule-ignoring (long_plain later other full) = tt
rule-ignoring (long_pair known full) = tt

pub rest-outside : (station : Station) (phase : Phase) (count b : ℕ) → Rest ≡ turn station phase count b → phase ≡ Outside
rest-outside station phase count b is = subst⁻¹ (Ignoring phase) is (rule-ignoring (turn-rule station phase count b))

pub outside-rests : (station : Station) (phase : Phase) (count b : ℕ) → phase ≡ Outside → (b ≡ start → ⊥) → Rest ≡ turn station phase count b
outside-rests station phase count b out other =
    let rule : ByRule station count b Outside Rest = ignored other in
    rule-only rule ∙ ap (λ (p : Phase). turn station p count b) (sym out)
