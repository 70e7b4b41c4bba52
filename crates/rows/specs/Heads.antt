-- What a row begins with. It serves contracts of private functions. Assumes nothing.
use Rattle.std.specs.Prelude.{ℕ, List, ◌++◌}
use Rattle.link_spec.specs.Events.{Name}
use Rattle.text.specs.Decimal.{decimal}
use Rattle.tape_spec.specs.declared.tape.Line.{Line}
use Rattle.tape_spec.specs.Rows.{letter, name_of}

-- no head is longer: 10 digits, a letter, a name of 5 letters and 3 blanks
abbrev pub most_head : ℕ
most_head = 19

-- the number of a row's record, the line's letter and the event's name
abbrev pub head_of : ℕ → Line → Name → List ℕ
head_of number line event = decimal number ++ (letter line ++ name_of event)
