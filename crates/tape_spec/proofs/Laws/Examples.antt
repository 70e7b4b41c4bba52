-- Each row of the table of examples holds of the definitions: antt computes both sides.
-- Assumes nothing.
use mathlib.Core.Path.{refl}
use Rattle.ground.specs.Each.{Each, none, ◌and◌}
use Rattle.checks.specs.Fcs.{shift_step, shift_steps, byte_step, run, residue, fcs, fcs_bytes}
use Rattle.checks.specs.Sum.{total, sum}
use Rattle.checks.specs.Check.{check_of, with_check, front, came, alike, is_right}
use Rattle.wire_spec.specs.Stuffing.{stuffed, stuffing}
use Rattle.link_spec.specs.Address.{takes}
use Rattle.link_spec.specs.Events.{verdict}
use Rattle.link_spec.specs.Turning.{kept, plain, partner, content_byte, inside, within, turn}
use Rattle.link_spec.specs.Receiving.{moved, outcome, heard, received}
use Rattle.text.specs.Ascii.{ascii}
use Rattle.text.specs.Decimal.{spelled}
use Rattle.text.specs.Hex.{digit, further, pairs}
use Rattle.tape_spec.specs.Rows.{header_row, letter, row, name_of, event_row, word, last_row}
use Rattle.tape_spec.specs.Whole.{kind, parts, entry_of, entries, entry_rows, listing}
use Rattle.tape_spec.specs.Examples.{Holds, examples}

pub each_holds : Each Holds examples
unfolding stuffed stuffing shift_step shift_steps byte_step run residue fcs fcs_bytes total sum check_of with_check front came alike is_right
    takes kept plain partner content_byte inside within turn verdict moved outcome heard received ascii spelled digit further pairs
    header_row letter row name_of event_row word last_row kind parts entry_of entries entry_rows listing
each_holds = refl and refl and refl and refl and refl and refl and refl and refl and refl and refl and refl and refl and refl and none
