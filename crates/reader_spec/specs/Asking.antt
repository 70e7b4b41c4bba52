-- What an event asks of a reader. 01, The point reader, steps 1 to 3. Assumes nothing.
use Rattle.link_spec.specs.Events.{Name, NONE, FRAME, CHECK, SHORT, LONG, PAIR, ADDR}
use Rattle.reader_spec.specs.declared.reader.Asking.{Asking}
use Rattle.reader_spec.specs.declared.reader.Asking.TheVariants.{Nothing, Wrong, Right}

-- SHORT, LONG, PAIR, ADDR or no event: no answer; CHECK is a frame whose check is wrong, FRAME one whose check is right
abbrev pub asking : Name → Asking
asking NONE = Nothing
asking FRAME = Right
asking CHECK = Wrong
asking SHORT = Nothing
asking LONG = Nothing
asking PAIR = Nothing
asking ADDR = Nothing
