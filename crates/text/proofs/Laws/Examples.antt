-- Each row of the table of examples holds of the definitions: antt computes both sides.
-- Assumes nothing.
use mathlib.Core.Path.{refl}
use Rattle.ground.specs.Each.{Each, none, ◌and◌}
use Rattle.text.specs.Ascii.{ascii}
use Rattle.text.specs.Decimal.{spelled}
use Rattle.text.specs.Hex.{digit, further, pairs}
use Rattle.text.specs.Examples.{Holds, examples}

pub each_holds : Each Holds examples
unfolding ascii spelled digit further pairs
each_holds = refl and refl and refl and refl and refl and refl and refl and refl and refl and refl and refl and refl and refl and refl and refl and refl and none
