-- The events by the paper's names, and which of them a stop byte tells. 01, How the receiver moves. Assumes nothing.
use Rattle.std.specs.Prelude.{ℕ, ◌-◌, Bool, true, false, cond, Option, None, Some, List, ltb, length}
use Rattle.checks.specs.declared.kind.Check as kind
use Rattle.checks.specs.Check.{check_length, is_right}
use Rattle.link_spec.specs.declared.event.Event.{Event}
use Rattle.link_spec.specs.declared.event.Event.TheVariants.{Frame, Check, Short, Long, Pair, Addr}
use Rattle.link_spec.specs.declared.event.Verdict.{Verdict}
use Rattle.link_spec.specs.Limits.{least_content}

pub data Name : Type 0 where
  NONE FRAME CHECK SHORT LONG PAIR ADDR : Name

abbrev pub named : Option Event → Name
named None = NONE
named (Some Frame) = FRAME
named (Some Check) = CHECK
named (Some Short) = SHORT
named (Some Long) = LONG
named (Some Pair) = PAIR
named (Some Addr) = ADDR

-- whether anything happened
abbrev pub happened : Name → Bool
happened NONE = false
happened FRAME = true
happened CHECK = true
happened SHORT = true
happened LONG = true
happened PAIR = true
happened ADDR = true

-- an event, and how many bytes of the content so far it carries
abbrev pub telling : Event → ℕ → Verdict
telling event length = record { event = event; length = length }

-- nothing happened
abbrev pub silent : Option Verdict
silent = None

-- which event, if any, and how many bytes of the content so far it carries
abbrev pub event_told : Option Verdict → Option Event
event_told None = None
event_told (Some v) = Some v.event

abbrev pub length_told : Option Verdict → ℕ
length_told None = 0
length_told (Some v) = v.length

-- rule 1: fewer than 4 content bytes
abbrev pub too_short : List ℕ → Bool
too_short content = ltb (length content) least_content

-- a content under 4 bytes is SHORT, otherwise a wrong check is CHECK, otherwise FRAME; the last two carry what stands before the check
unfoldable pub verdict : kind.Check → List ℕ → Verdict
verdict check content =
    cond (too_short content) (telling Short 0)
    (telling (cond (is_right check content) Frame Check) (length content - check_length check))
