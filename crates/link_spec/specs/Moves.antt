-- What the rules of a station answer, in the paper's words: what a byte is to a receiver, and what a stop byte tells.
-- 01, How the receiver moves. Assumes nothing.
use Rattle.std.specs.Prelude.{ℕ, List, Some}
use Rattle.link_spec.specs.declared.event.Verdict.{Verdict}
use Rattle.link_spec.specs.declared.station.Station.{Station}
use Rattle.link_spec.specs.declared.receiver.Phase.{Phase}
use Rattle.link_spec.specs.declared.receiver.Turn.{Turn}
use Rattle.link_spec.specs.declared.receiver.Turn.TheVariants.{Rest, Begin, Wait, Keep, Stop, Tell}
use Rattle.link_spec.specs.Events.{Name, named, verdict}
use Rattle.link_spec.specs.Station.{check_on}
use Rattle.link_spec.specs.Turning.{turn}

-- a byte is ignored, begins a frame, waits for its partner, is a content byte or the partner of one, ends the frame, or is where an event is told
pub data Move : Type 0 where
  IGNORED BEGINS WAITS : Move
  CONTENT : ℕ → Move
  ENDS : Move
  EVENT : Name → Move

abbrev pub move_of : Turn → Move
move_of Rest = IGNORED
move_of Begin = BEGINS
move_of Wait = WAITS
move_of (Keep b) = CONTENT b
move_of Stop = ENDS
move_of (Tell event) = EVENT (named (Some event))

-- what a byte is to this station's receiver in this phase, after this many content bytes: `turn`, which the table of Rules holds against the paper
abbrev pub move_at : Station → Phase → ℕ → ℕ → Move
move_at station phase count b = move_of (turn station phase count b)

-- an event, and how many bytes of the content it carries
pub record Ruling : Type 0 where
  pub event : Name
  pub length : ℕ

abbrev pub ruling_of : Verdict → Ruling
ruling_of v = record { event = named (Some v.event); length = v.length }

-- what a stop byte after this content tells: `verdict`, which the table of Rules holds against the paper
abbrev pub ruling_at : Station → List ℕ → Ruling
ruling_at station content = ruling_of (verdict (check_on station) content)
