-- Each row of the table of examples holds of the definitions: antt computes both sides.
-- Assumes nothing.
use mathlib.Core.Path.{refl}
use Rattle.ground.specs.Each.{Each, none, ◌and◌}
use Rattle.checks.specs.Fcs.{shift_step, shift_steps, byte_step, run, residue, fcs, fcs_bytes}
use Rattle.checks.specs.Sum.{total, sum}
use Rattle.checks.specs.Check.{check_of, with_check, front, came, alike, is_right}
use Rattle.wire_spec.specs.Stuffing.{stuffed, stuffing}
use Rattle.wire_spec.specs.Image.{image}
use Rattle.wire_spec.specs.Writing.{image_written}
use Rattle.link_spec.specs.Address.{takes}
use Rattle.link_spec.specs.Frame.{point_content, addressed_content}
use Rattle.link_spec.specs.Writers.{written_unless, point_written, addressed_written}
use Rattle.link_spec.specs.Events.{verdict}
use Rattle.link_spec.specs.Turning.{kept, plain, partner, content_byte, inside, within, turn}
use Rattle.link_spec.specs.Receiving.{moved, outcome, heard, received}
use Rattle.link_spec.specs.Hearing.{note, tells}
use Rattle.link_spec.specs.Examples.{Holds, examples}

pub each_holds : Each Holds examples
unfolding stuffed stuffing image shift_step shift_steps byte_step run residue fcs fcs_bytes total sum check_of with_check point_content addressed_content image_written written_unless
    point_written addressed_written front came alike is_right takes kept plain partner content_byte inside within turn verdict moved outcome heard received note tells
each_holds =
    refl and refl and refl and refl and refl and refl and refl and refl and refl and refl and refl
    and refl and refl and refl and refl and refl and refl and refl and refl and refl and refl and refl and refl
    and refl and refl and refl and refl and refl and refl and refl and refl and refl and refl and refl and refl
    and refl and refl and refl and refl and refl and refl and refl and refl and none
