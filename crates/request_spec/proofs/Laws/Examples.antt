-- Each row of the table of examples holds of the definitions: antt computes both sides.
-- Assumes nothing.
use mathlib.Core.Path.{refl}
use Rattle.ground.specs.Each.{Each, none, ◌and◌}
use Rattle.request_spec.specs.Parameters.{parameter_with, is_value_of}
use Rattle.request_spec.specs.Cards.{high_first}
use Rattle.request_spec.specs.Acceptance.{acceptance}
use Rattle.request_spec.specs.Header.{header}
use Rattle.request_spec.specs.Requesting.{request_written}
use Rattle.request_spec.specs.Reading.{data_read, reason_read, sign_read, read_as, reply_read}
use Rattle.request_spec.specs.Examples.{Holds, examples}

pub each_holds : Each Holds examples
unfolding parameter_with is_value_of high_first acceptance header request_written data_read reason_read sign_read read_as reply_read
each_holds =
    refl and refl and refl and refl and refl and refl and refl and refl and refl and refl and refl and refl and refl
    and refl and refl and refl and refl and refl and refl and refl and refl and refl and refl and refl and refl
    and refl and refl and refl and refl and refl and refl and refl
    and none
