-- Which codes exist, and which data each accepts: one definition for the writer of requests, the reader and the master. What a slow reader does not
-- do of it is said in reader_spec, Speeds.
-- 01, The point reader, steps 4 and 5 and the table; 001, 'Коды команд'. Assumes nothing.
use Rattle.std.specs.Prelude.{ℕ, ◌≤◌, ◌≡◌, Bool, true, false, cond, ◌||◌, List, [], ◌∷◌, eqb, length, drop, Option, None, Some, Result, Ok, Err}
use Rattle.request_spec.specs.declared.parameter.Parameter.{Parameter}
use Rattle.request_spec.specs.declared.command.Card.TheVariants.{Marin, Hid, Motorola}
use Rattle.request_spec.specs.declared.command.Command.{Command}
use Rattle.request_spec.specs.declared.command.Command.TheVariants.{Header, Write, Read, Card}
use Rattle.request_spec.specs.declared.command.Fault.{Fault}
use Rattle.request_spec.specs.declared.command.Fault.TheVariants.{UnknownCode, BadData}
use Rattle.request_spec.specs.Parameters.{parameter_code, parameter_with, is_value_of, IsValue}

-- the code of each command
abbrev pub command_code : Command → ℕ
command_code Header = 0x00
command_code (Write p) = 0x01
command_code (Read p) = 0x02
command_code (Card Marin) = 0x10
command_code (Card Hid) = 0x14
command_code (Card Motorola) = 0x18

-- data accepted: none
abbrev pub bare_accepted : Command → List ℕ → Result Command Fault
bare_accepted command [] = Ok command
bare_accepted command (b ∷ more) = Err BadData

-- a parameter code, then a value of exactly its length; for 02 a value 3..10
abbrev pub write_accepted_to : Option Parameter → List ℕ → Result Command Fault
write_accepted_to None value = Err BadData
write_accepted_to (Some p) value = cond (is_value_of p value) (Ok (Write p)) (Err BadData)

abbrev pub write_accepted : List ℕ → Result Command Fault
write_accepted [] = Err BadData
write_accepted (code ∷ value) = write_accepted_to (parameter_with code) value

-- one existing parameter code
abbrev pub read_accepted_from : Option Parameter → Result Command Fault
read_accepted_from None = Err BadData
read_accepted_from (Some p) = Ok (Read p)

abbrev pub read_accepted : List ℕ → Result Command Fault
read_accepted [] = Err BadData
read_accepted (code ∷ []) = read_accepted_from (parameter_with code)
read_accepted (code ∷ b ∷ more) = Err BadData

-- the codes that exist
abbrev pub is_known : ℕ → Bool
is_known code = eqb code 0x00 || (eqb code 0x01 || (eqb code 0x02 || (eqb code 0x10 || (eqb code 0x14 || eqb code 0x18))))

-- the table, code by code
unfoldable pub acceptance : ℕ → List ℕ → Result Command Fault
acceptance code «data» =
    cond (eqb code 0x00) (bare_accepted Header «data»)
    (cond (eqb code 0x01) (write_accepted «data»)
    (cond (eqb code 0x02) (read_accepted «data»)
    (cond (eqb code 0x10) (bare_accepted (Card Marin) «data»)
    (cond (eqb code 0x14) (bare_accepted (Card Hid) «data»)
    (cond (eqb code 0x18) (bare_accepted (Card Motorola) «data») (Err UnknownCode))))))

-- the NACK that a reader answers instead: unknown code: NACK 2 (step 4); data not acceptable: NACK 3 (step 5)
abbrev pub nack_of : Fault → ℕ
nack_of UnknownCode = 2
nack_of BadData = 3

-- a call's answer in the paper's numbers: a command by its code, one on a parameter by both codes, a fault by its NACK's number
pub data Judgement : Type 0 where
  by_code : (code : ℕ) → Judgement
  by_codes : (code parameter : ℕ) → Judgement
  by_number : (nack : ℕ) → Judgement

abbrev pub judgement : Result Command Fault → Judgement
judgement (Ok Header) = by_code (command_code Header)
judgement (Ok (Write p)) = by_codes (command_code (Write p)) (parameter_code p)
judgement (Ok (Read p)) = by_codes (command_code (Read p)) (parameter_code p)
judgement (Ok (Card card)) = by_code (command_code (Card card))
judgement (Err fault) = by_number (nack_of fault)

abbrev pub is_accepted : Result Command Fault → Bool
is_accepted (Ok command) = true
is_accepted (Err fault) = false

-- data that a command was accepted with: of a write's, what stands after the parameter's code is a value of that parameter
abbrev pub FitsCommand : Command → List ℕ → Type 0
FitsCommand Header «data» = Unit {0}
FitsCommand (Write p) «data» = (1 ≤ length «data») × (is_value_of p (drop 1 «data») ≡ true)
FitsCommand (Read p) «data» = Unit {0}
FitsCommand (Card card) «data» = Unit {0}

-- The first two columns of the table of 01, row by row. `Laws.Acceptance` proves that these are the codes and data that `acceptance`
-- accepts, and that it accepts no other.
pub data Accepts : ℕ → List ℕ → Command → Type 0 where
  header : Accepts 0x00 [] Header
  write : (p : Parameter) (value : List ℕ) → IsValue p value → Accepts 0x01 (parameter_code p ∷ value) (Write p)
  read : (p : Parameter) → Accepts 0x02 (parameter_code p ∷ []) (Read p)
  marin : Accepts 0x10 [] (Card Marin)
  hid : Accepts 0x14 [] (Card Hid)
  motorola : Accepts 0x18 [] (Card Motorola)
