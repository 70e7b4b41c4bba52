-- A reader's state in the paper's words: three parameters, whether it is fast, and the memory of the last executed command.
-- 01, The point reader, 'State' and step 3, and Refusal numbers, row 4; 02, L2; 001, 'О повторном запросе'. Assumes nothing.
use Rattle.std.specs.Prelude as std
use Rattle.std.specs.Prelude.{ℕ, ◌≤◌, ◌<◌, ◌≡◌, Bool, false, cond, ◌&&◌, ◌||◌, not, eqb, ltb, None, Some}
use Rattle.std.proofs.Math.Option.{Option, none, some}
use Rattle.reader_spec.specs.declared.reader as declared
use Rattle.reader_spec.specs.declared.reader.Parameters.{Parameters}
use Rattle.reader_spec.specs.declared.reader.Reader.{Reader}
use Rattle.reader_spec.specs.Limits.{room}
use Rattle.reader_spec.specs.Parameters.{fresh_parameters}
use Rattle.reader_spec.specs.Speeds.{has_speed}

-- the last executed command: its identifier and command, and the length of its reply
pub record Last : Type 0 where
  pub identifier : ℕ
  pub command : ℕ
  pub length : ℕ

pub record State : Type 0 where
  pub parameters : Parameters
  pub fast : Bool
  pub last : Option Last

abbrev pub last_of : ℕ → ℕ → ℕ → Last
last_of identifier command length = record { identifier = identifier; command = command; length = length }

abbrev pub state_with : Parameters → Bool → Option Last → State
state_with ps fast last = record { parameters = ps; fast = fast; last = last }

-- what a reader's memory says
abbrev pub remembered : std.Option declared.Last.Last → Option Last
remembered None = none
remembered (Some last) = some (last_of last.identifier last.command last.length)

-- what a reader says
abbrev pub state_of : Reader → State
state_of r = state_with r.parameters r.fast (remembered r.memory)

-- a fresh reader has speed 3, zeros in the others, and no last command; it is made fast or slow
abbrev pub fresh_state : Bool → State
fresh_state fast = state_with fresh_parameters fast none

-- step 3: identifier and command equal those of the last executed command; its stored reply has this length
abbrev pub find : Option Last → ℕ → ℕ → std.Option ℕ
find none identifier command = None
find (some last) identifier command =
    cond (eqb last.identifier identifier && eqb last.command command) (Some last.length) None

-- row 4: remembered length over 130
abbrev pub too_far : Option Last → Bool
too_far none = false
too_far (some last) = ltb room last.length

-- row 4: speed not 3..10, or 8..10 in a slow reader's record; remembered length over 130
abbrev pub bad_state : State → Bool
bad_state s = not (has_speed s.fast s.parameters.speed) || too_far s.last

-- the same as rows, in the paper's numbers. `Laws.State` proves that these are the bad states, and that there are no others
pub data BadState (s : State) : Type 0 where
  speed_under : s.parameters.speed < 3 → BadState s
  speed_over : 10 < s.parameters.speed → BadState s
  slow_above : s.fast ≡ false → 8 ≤ s.parameters.speed → s.parameters.speed ≤ 10 → BadState s
  length_over : {last : Last} → s.last ≡ some last → room < last.length → BadState s
