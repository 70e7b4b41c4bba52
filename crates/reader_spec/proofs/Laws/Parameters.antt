-- Laws of the parameters' values.
-- Assumes nothing.
use mathlib.Core.Path.{◌≡◌, refl, ap}
use mathlib.Core.List.{List, [], ◌∷◌}
use Prim.Native.Nat.{ℕ}
use native.Mathlib.Omega.{arith}
use lib.ListN.{length, get_or}
use Rattle.request_spec.specs.declared.parameter.Parameter.{Parameter}
use Rattle.request_spec.specs.declared.parameter.Parameter.TheVariants.{Speed, Settings, Cell}
use Rattle.request_spec.specs.Parameters.{length_of}
use Rattle.reader_spec.specs.declared.reader.Parameters.{Parameters}
use Rattle.reader_spec.specs.Parameters.{value_of, with_value, after_power}
use Rattle.reader_spec.specs.Sessions.{value_set, powered_value}
use Rattle.reader_spec.proofs.Laws.Speeds.{speed-twice}

-- a value of one byte is that byte
one_byte : (value : List ℕ) → length value ≡ 1 → get_or value 0 0 ∷ [] ≡ value
one_byte [] one = absurd (omega arith)
one_byte (b ∷ []) one = refl
one_byte (b ∷ d ∷ more) one = absurd (omega arith)

-- what is written to one parameter is its value, and the others stay
pub value_written : (ps : Parameters) (p : Parameter) (value : List ℕ) → length value ≡ length_of p → (q : Parameter)
    → value_of (with_value ps p value) q ≡ value_set (value_of ps) p value q
value_written ps Speed value whole Speed = one_byte value whole
value_written ps Speed value whole Settings = refl
value_written ps Speed value whole Cell = refl
value_written ps Settings value whole Speed = refl
value_written ps Settings value whole Settings = refl
value_written ps Settings value whole Cell = refl
value_written ps Cell value whole Speed = refl
value_written ps Cell value whole Settings = refl
value_written ps Cell value whole Cell = refl

-- ---- what a power-on leaves of a value

pub value-powered : (ps : Parameters) (p : Parameter) → value_of (after_power ps) p ≡ powered_value p (value_of ps p)
value-powered ps Speed = refl
value-powered ps Settings = refl
value-powered ps Cell = refl

pub powered-sized : (p : Parameter) (value : List ℕ) → length value ≡ length_of p → length (powered_value p value) ≡ length_of p
powered-sized Speed value whole = refl
powered-sized Settings value whole = whole
powered-sized Cell value whole = whole

-- a second power-on leaves what the first one left
pub powered-twice : (p : Parameter) (value : List ℕ) → powered_value p (powered_value p value) ≡ powered_value p value
powered-twice Speed value = ap (λ (v : ℕ). v ∷ []) (speed-twice (get_or value 0 0))
powered-twice Settings value = refl
powered-twice Cell value = refl
