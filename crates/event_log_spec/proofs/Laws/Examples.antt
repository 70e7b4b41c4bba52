-- Each row of the table of examples holds of the definitions: antt computes both sides.
-- Assumes nothing.
use mathlib.Core.Path.{refl}
use Rattle.ground.specs.Each.{Each, none, ◌and◌}
use Rattle.ground.specs.Laying.{laid}
use Rattle.checks.specs.Sum.{total, sum}
use Rattle.checks.specs.Check.{check_of, with_check}
use Rattle.wire_spec.specs.Stuffing.{stuffed, stuffing}
use Rattle.wire_spec.specs.Image.{image}
use Rattle.link_spec.specs.Frame.{addressed_content}
use Rattle.event_log_spec.specs.Log.{body_at, identifier_before}
use Rattle.event_log_spec.specs.Appending.{appended_to}
use Rattle.event_log_spec.specs.Doing.{doing}
use Rattle.event_log_spec.specs.Answering.{framed, answered_to}
use Rattle.event_log_spec.specs.Lots.{outdated, one_deleted}
use Rattle.event_log_spec.specs.Sessions.{lots_after, told_after, history_of}
use Rattle.event_log_spec.specs.Examples.{all_seen, Holds, examples}

pub each_holds : Each Holds examples
unfolding laid total sum check_of with_check stuffed stuffing image addressed_content body_at identifier_before appended_to doing framed answered_to outdated one_deleted
    lots_after told_after history_of all_seen
each_holds = refl and refl and refl and refl and refl and refl and refl and refl and refl and refl and refl and refl and refl and refl and refl and refl and refl and refl and refl and refl and refl and refl and none
