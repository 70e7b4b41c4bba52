-- Each row of the table of examples holds of the definitions: antt computes both sides.
-- Assumes nothing.
use mathlib.Core.Path.{refl}
use Rattle.ground.specs.Each.{Each, none, ◌and◌}
use Rattle.wire_spec.specs.Stuffing.{stuffed, stuffing, specials}
use Rattle.wire_spec.specs.Image.{image, image_length}
use Rattle.wire_spec.specs.Writing.{length_asked, image_written}
use Rattle.wire_spec.specs.Examples.{Holds, examples}

pub each_holds : Each Holds examples
unfolding stuffed stuffing specials image image_length length_asked image_written
each_holds = refl and refl and refl and refl and refl and refl and none
