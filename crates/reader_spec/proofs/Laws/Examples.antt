-- Each row of the table of examples holds of the definitions: antt computes both sides.
-- Assumes nothing.
use mathlib.Core.Path.{refl}
use Rattle.ground.specs.Each.{Each, none, ◌and◌}
use Rattle.checks.specs.Fcs.{shift_step, shift_steps, byte_step, run, residue, fcs, fcs_bytes}
use Rattle.checks.specs.Check.{check_of, with_check}
use Rattle.wire_spec.specs.Stuffing.{stuffed, stuffing}
use Rattle.wire_spec.specs.Image.{image}
use Rattle.link_spec.specs.Frame.{point_content}
use Rattle.request_spec.specs.Parameters.{parameter_with, is_value_of}
use Rattle.request_spec.specs.Acceptance.{acceptance}
use Rattle.reader_spec.specs.Replies.{reply_to}
use Rattle.reader_spec.specs.Sending.{sent}
use Rattle.reader_spec.specs.Answering.{powered_on, framed, answered}
use Rattle.reader_spec.specs.Examples.{all_seen, Holds, examples}

pub each_holds : Each Holds examples
unfolding shift_step shift_steps byte_step run residue fcs fcs_bytes check_of with_check stuffed stuffing image point_content parameter_with is_value_of acceptance
    reply_to sent powered_on framed answered all_seen
each_holds =
    refl and refl and refl and refl and refl and refl and refl and refl and refl and refl and refl and refl
    and refl and refl and refl and refl and refl and refl and refl and refl and refl and refl and refl and refl
    and refl and refl and refl and refl and refl and refl and refl and refl and refl and refl and refl and refl
    and refl and refl and refl and refl and refl and refl and refl and refl and refl and refl and refl and refl
    and refl and refl and refl and refl and refl and refl and refl and refl and refl and refl and refl and refl and none
