-- The receiver's rules as a table: which turn a byte is, and when. `Laws.Turning` proves that `turn` answers by it, and that it leaves no
-- other answer; `Laws.Events` proves the same of `verdict`, which event a stop byte tells. A receiver's state that no call answers, such
-- as pending with no content byte on the addressed line, goes by the same rows.
-- 01, How the receiver moves; the numbers are those of its rules. Assumes nothing.
use Rattle.std.specs.Prelude.{ℕ, zero, suc, ◌-◌, ◌≤◌, ◌<◌, ◌≡◌, Bool, true, false, List, length}
use Rattle.checks.specs.declared.kind.Check as kind
use Rattle.checks.specs.Check.{check_length, is_right}
use Rattle.wire_spec.specs.Limits.{most_content}
use Rattle.wire_spec.specs.Stuffing.{special}
use Rattle.wire_spec.specs.Image.{start, stop}
use Rattle.link_spec.specs.declared.event.Event.TheVariants.{Frame, Check, Short, Long, Pair, Addr}
use Rattle.link_spec.specs.declared.event.Verdict.{Verdict}
use Rattle.link_spec.specs.declared.station.Station.{Station}
use Rattle.link_spec.specs.declared.station.Station.TheVariants.{Point, Addressed}
use Rattle.link_spec.specs.declared.receiver.Phase.{Phase}
use Rattle.link_spec.specs.declared.receiver.Phase.TheVariants.{Outside, Inside, Pending}
use Rattle.link_spec.specs.declared.receiver.Turn.{Turn}
use Rattle.link_spec.specs.declared.receiver.Turn.TheVariants.{Rest, Begin, Wait, Keep, Stop, Tell}
use Rattle.link_spec.specs.Limits.{least_content}
use Rattle.link_spec.specs.Address.{takes}
use Rattle.link_spec.specs.Events.{telling}

-- after this many content bytes a byte is the raw address, and whether this station takes it
pub data Address : Station → ℕ → ℕ → Bool → Type 0 where
  first : {own b : ℕ} {taken : Bool}
      → (b ≡ start → ⊥)
      → (b ≡ stop → ⊥)
      → takes own b ≡ taken
      → Address (Addressed own) zero b taken

-- after this many content bytes a byte is not the address
pub data Later : Station → ℕ → Type 0 where
  on_point : {count : ℕ} → Later Point count
  after_first : {own count : ℕ} → Later (Addressed own) (suc count)

pub data ByRule (station : Station) (count b : ℕ) : Phase → Turn → Type 0 where
  -- outside a frame everything but FD is ignored; FD begins a frame from every state
  ignored : (b ≡ start → ⊥) → ByRule station count b Outside Rest
  begins : {phase : Phase} → b ≡ start → ByRule station count b phase Begin
  -- 1
  stops : b ≡ stop → ByRule station count b Inside Stop
  -- 2
  address : Address station count b true → ByRule station count b Inside (Keep b)
  no_address : Address station count b false → ByRule station count b Inside (Tell Addr)
  -- 3
  waits : Later station count → b ≡ 0xFF → ByRule station count b Inside Wait
  plain : Later station count → special b ≡ false → count < most_content → ByRule station count b Inside (Keep b)
  pair : b ≤ 0x02 → count < most_content → ByRule station count b Pending (Keep (0xFF - b))
  no_pair : 0x02 < b → (b ≡ start → ⊥) → ByRule station count b Pending (Tell Pair)
  -- 4
  long_plain : Later station count → special b ≡ false → most_content ≤ count → ByRule station count b Inside (Tell Long)
  long_pair : b ≤ 0x02 → most_content ≤ count → ByRule station count b Pending (Tell Long)

-- 1, which event: after fewer than 4 content bytes SHORT, otherwise after a wrong check CHECK, otherwise FRAME; the last two carry what
-- stands before the check
pub data ByStop (check : kind.Check) (content : List ℕ) : Verdict → Type 0 where
  short : length content < least_content → ByStop check content (telling Short 0)
  wrong : least_content ≤ length content
      → is_right check content ≡ false
      → ByStop check content (telling Check (length content - check_length check))
  right : least_content ≤ length content
      → is_right check content ≡ true
      → ByStop check content (telling Frame (length content - check_length check))
