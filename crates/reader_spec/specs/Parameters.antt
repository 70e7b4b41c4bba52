-- The values of the three parameters in a reader's state.
-- 01, The point reader, 'State' and the table; 02, L2; 003, 'Параметры считывателя'. Assumes nothing.
use Rattle.std.specs.Prelude.{ℕ, List, [], ◌∷◌, get_or, replicate, drop}
use Rattle.request_spec.specs.declared.parameter.Parameter.{Parameter}
use Rattle.request_spec.specs.declared.parameter.Parameter.TheVariants.{Speed, Settings, Cell}
use Rattle.request_spec.specs.declared.command.Command.{Command}
use Rattle.request_spec.specs.declared.command.Command.TheVariants.{Header, Write, Read, Card}
use Rattle.request_spec.specs.Parameters.{length_of}
use Rattle.reader_spec.specs.declared.reader.Parameters.{Parameters}
use Rattle.reader_spec.specs.Speeds.{powered_speed}

-- a fresh reader has speed 3, zeros in the others
abbrev pub fresh_parameters : Parameters
fresh_parameters = record { speed = 3; settings = replicate (length_of Settings) 0; cell = replicate (length_of Cell) 0 }

-- the value as bytes
abbrev pub value_of : Parameters → Parameter → List ℕ
value_of ps Speed = ps.speed ∷ []
value_of ps Settings = ps.settings
value_of ps Cell = ps.cell

-- the parameters with another value of one of them
abbrev pub with_value : Parameters → Parameter → List ℕ → Parameters
with_value ps Speed value = record { speed = get_or value 0 0; settings = ps.settings; cell = ps.cell }
with_value ps Settings value = record { speed = ps.speed; settings = value; cell = ps.cell }
with_value ps Cell value = record { speed = ps.speed; settings = ps.settings; cell = value }

-- what a command does to the parameters: a write, whose data is the parameter's code and then its value, writes
abbrev pub done_to : Parameters → Command → List ℕ → Parameters
done_to ps Header «data» = ps
done_to ps (Write p) «data» = with_value ps p (drop 1 «data»)
done_to ps (Read p) «data» = ps
done_to ps (Card card) «data» = ps

-- what a power-on does to them: a speed of 8..10 becomes 3, and both others stay
abbrev pub after_power : Parameters → Parameters
after_power ps = with_value ps Speed (powered_speed ps.speed ∷ [])
