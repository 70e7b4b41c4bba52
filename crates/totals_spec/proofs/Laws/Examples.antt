-- Each row of the table of examples holds of the definitions: antt computes both sides.
-- Assumes nothing.
use mathlib.Core.Path.{refl}
use Rattle.ground.specs.Each.{Each, none, ◌and◌}
use Rattle.checks.specs.Fcs.{shift_step, shift_steps, byte_step, run, residue, fcs, fcs_bytes}
use Rattle.checks.specs.Sum.{total, sum}
use Rattle.checks.specs.Check.{check_of, with_check, front, came, alike, is_right}
use Rattle.wire_spec.specs.Stuffing.{stuffed, stuffing}
use Rattle.wire_spec.specs.Image.{image}
use Rattle.link_spec.specs.Address.{takes}
use Rattle.link_spec.specs.Events.{verdict}
use Rattle.link_spec.specs.Turning.{kept, plain, partner, content_byte, inside, within, turn}
use Rattle.link_spec.specs.Receiving.{moved, outcome, heard, received}
use Rattle.text.specs.Ascii.{ascii}
use Rattle.text.specs.Decimal.{spelled}
use Rattle.tape_spec.specs.Rows.{word, last_row}
use Rattle.tape_spec.specs.Whole.{kind, parts, entry_of, entries}
use Rattle.tape_spec.specs.Frames.{bytes_on}
use Rattle.tape_spec.specs.Taping.{after_kind}
use Rattle.totals_spec.specs.Whole.{fronts_on, sum_over, ranked, report_of}
use Rattle.totals_spec.specs.Adding.{after_bytes, chunk_of, totals_after, added, reported}
use Rattle.totals_spec.specs.Rows.{title_row, line_name, sums_row, report_text}
use Rattle.totals_spec.specs.Examples.{Holds, examples}

pub each_holds : Each Holds examples
unfolding stuffed stuffing image shift_step shift_steps byte_step run residue fcs fcs_bytes total sum check_of with_check front came alike is_right
    takes kept plain partner content_byte inside within turn verdict moved outcome heard received ascii spelled
    word last_row kind parts entry_of entries bytes_on after_kind fronts_on sum_over ranked report_of after_bytes chunk_of totals_after added reported
    title_row line_name sums_row report_text
each_holds =
    refl and refl and refl and refl and refl and refl and refl and refl and refl
    and refl and refl and refl and refl and refl and refl and refl and refl
    and refl and refl and refl and refl and refl and refl and none
