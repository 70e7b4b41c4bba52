-- The speeds above 115200 baud: which readers have them, what a power-on leaves of them, and which commands a reader therefore does not do.
-- 02, L2; 003, 'Параметры считывателя', the note **. Assumes nothing.
use Rattle.std.specs.Prelude.{ℕ, ◌≤◌, Bool, true, cond, ◌&&◌, ◌||◌, not, List, [], ◌∷◌, ltb, get_or, drop, Result, Ok, Err}
use Rattle.request_spec.specs.declared.parameter.Parameter.{Parameter}
use Rattle.request_spec.specs.declared.parameter.Parameter.TheVariants.{Speed, Settings, Cell}
use Rattle.request_spec.specs.declared.command.Command.{Command}
use Rattle.request_spec.specs.declared.command.Command.TheVariants.{Header, Write, Read, Card}
use Rattle.request_spec.specs.declared.command.Fault.{Fault}
use Rattle.request_spec.specs.declared.command.Fault.TheVariants.{BadData}
use Rattle.request_spec.specs.Parameters.{is_speed}
use Rattle.request_spec.specs.Acceptance.{acceptance}

-- 7 is 115200: of the speeds 3..10 those above it are 8, 9 and 10
abbrev pub is_above : ℕ → Bool
is_above v = ltb 7 v

-- not every reader has these: a fast one has 3..10, a slow one 3..7
abbrev pub has_speed : Bool → ℕ → Bool
has_speed fast v = is_speed v && (fast || not (is_above v))

-- none keeps them without power: at power-on 8..10 become 3, which is 9600, and 3..7 stay
abbrev pub powered_speed : ℕ → ℕ
powered_speed v = cond (is_above v) 3 v

-- of a parameter's value, whether it may be this reader's
abbrev pub has_value : Bool → Parameter → List ℕ → Bool
has_value fast Speed value = has_speed fast (get_or value 0 0)
has_value fast Settings value = true
has_value fast Cell value = true

-- What a request may be is `acceptance`. What this reader does of it: all but a write of a value that may not be its own. (A write's data is the
-- parameter's code and then its value.)
abbrev pub serves : Bool → Command → List ℕ → Bool
serves fast Header «data» = true
serves fast (Write p) «data» = has_value fast p (drop 1 «data»)
serves fast (Read p) «data» = true
serves fast (Card card) «data» = true

-- step 5: such a write is bad data, so NACK 3
abbrev pub served_as : Bool → List ℕ → Result Command Fault → Result Command Fault
served_as fast «data» (Ok command) = cond (serves fast command «data») (Ok command) (Err BadData)
served_as fast «data» (Err fault) = Err fault

-- so what a reader, fast or slow, makes of a code and data: a command that it executes, or the NACK of step 4 or 5
abbrev pub served : Bool → ℕ → List ℕ → Result Command Fault
served fast code «data» = served_as fast «data» (acceptance code «data»)

-- A write of a speed of 8, 9 or 10. `Laws.Speeds` proves that of what a request may be a slow reader does all but these, and a fast one all.
pub data WritesAbove : ℕ → List ℕ → Type 0 where
  writes_above : {v : ℕ} → 8 ≤ v → v ≤ 10 → WritesAbove 0x01 (0x02 ∷ v ∷ [])
