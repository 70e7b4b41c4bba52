-- The reader's three parameters.
-- 01, The point reader, 'State' and the table; 003, 'Параметры считывателя'. Assumes nothing.
use Rattle.std.specs.Prelude.{ℕ, ◌≤◌, ◌≡◌, Bool, true, cond, ◌&&◌, List, [], ◌∷◌, eqb, leb, length, get_or, Option, None, Some}
use Rattle.request_spec.specs.declared.parameter.Parameter.{Parameter}
use Rattle.request_spec.specs.declared.parameter.Parameter.TheVariants.{Speed, Settings, Cell}

-- 02 interface speed, 05, 80
abbrev pub parameter_code : Parameter → ℕ
parameter_code Speed = 0x02
parameter_code Settings = 0x05
parameter_code Cell = 0x80

-- 1 byte, 4 bytes, 8 bytes
abbrev pub length_of : Parameter → ℕ
length_of Speed = 1
length_of Settings = 4
length_of Cell = 8

-- the parameter that a code names, if there is one
unfoldable pub parameter_with : ℕ → Option Parameter
parameter_with code =
    cond (eqb code (parameter_code Speed)) (Some Speed)
    (cond (eqb code (parameter_code Settings)) (Some Settings)
    (cond (eqb code (parameter_code Cell)) (Some Cell) None))

-- interface speed, values 3..10
abbrev pub is_speed : ℕ → Bool
is_speed v = leb 3 v && leb v 10

-- for 02 a value 3..10; for the others any
abbrev pub in_range : Parameter → List ℕ → Bool
in_range Speed value = is_speed (get_or value 0 0)
in_range Settings value = true
in_range Cell value = true

-- a value of exactly its length; for 02 a value 3..10
unfoldable pub is_value_of : Parameter → List ℕ → Bool
is_value_of p value = eqb (length value) (length_of p) && in_range p value

-- the same as a table: 02 has 1 byte, 3..10; 05 has 4 bytes; 80 has 8 bytes
pub data IsValue : Parameter → List ℕ → Type 0 where
  of_speed : {v : ℕ} → 3 ≤ v → v ≤ 10 → IsValue Speed (v ∷ [])
  of_settings : {value : List ℕ} → length value ≡ 4 → IsValue Settings value
  of_cell : {value : List ℕ} → length value ≡ 8 → IsValue Cell value
