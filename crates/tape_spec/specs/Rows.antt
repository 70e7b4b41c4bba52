-- The rows of a listing. 01, The listing program. Assumes nothing.
use Rattle.std.specs.Prelude.{ℕ, List, [], ◌++◌, take}
use Rattle.link_spec.specs.Events.{Name, NONE, FRAME, CHECK, SHORT, LONG, PAIR, ADDR}
use Rattle.link_spec.specs.Receiving.{Said}
use Rattle.text.specs.Ascii.{ascii}
use Rattle.text.specs.Decimal.{decimal}
use Rattle.text.specs.Hex.{pairs}
use Rattle.tape_spec.specs.declared.tape.Ending.{Ending}
use Rattle.tape_spec.specs.declared.tape.Ending.TheVariants.{End, Cut, Bad, Full}
use Rattle.tape_spec.specs.declared.tape.Line.{Line}
use Rattle.tape_spec.specs.declared.tape.Line.TheVariants.{Point, Addressed}

-- the row above all others
unfoldable pub header_row : List ℕ
header_row = ascii "record line event content\n"

-- P or A, between blanks
unfoldable pub letter : Line → List ℕ
letter Point = ascii " P "
letter Addressed = ascii " A "

-- number of records before, P or A, event name with a blank, content as upper-case hex pairs joined by dots, `-` for none
unfoldable pub row : ℕ → Line → List ℕ → List ℕ → List ℕ
row number line name content = decimal number ++ (letter line ++ (name ++ (pairs content ++ ascii "\n")))

-- the name of an event, and a blank
unfoldable pub name_of : Name → List ℕ
name_of NONE = []
name_of FRAME = ascii "FRAME "
name_of CHECK = ascii "CHECK "
name_of SHORT = ascii "SHORT "
name_of LONG = ascii "LONG "
name_of PAIR = ascii "PAIR "
name_of ADDR = ascii "ADDR "

-- one row for an event, with its content for FRAME; none where nothing happened
unfoldable pub event_row : ℕ → Line → Name → List ℕ → List ℕ
event_row number line NONE content = []
event_row number line FRAME content = row number line (name_of FRAME) content
event_row number line CHECK content = row number line (name_of CHECK) []
event_row number line SHORT content = row number line (name_of SHORT) []
event_row number line LONG content = row number line (name_of LONG) []
event_row number line PAIR content = row number line (name_of PAIR) []
event_row number line ADDR content = row number line (name_of ADDR) []

-- the content that an event carries
abbrev pub carried : Said → List ℕ
carried said = take said.length said.content

-- the row of what a receiver said of a byte
abbrev pub heard_row : ℕ → Line → Said → List ℕ
heard_row n line said = event_row n line said.event (carried said)

-- `end`, `cut`, `bad` or `full`, with the number of whole records
unfoldable pub word : Ending → List ℕ
word End = ascii "end "
word Cut = ascii "cut "
word Bad = ascii "bad "
word Full = ascii "full "

unfoldable pub last_row : Ending → ℕ → List ℕ
last_row ending records = word ending ++ (decimal records ++ ascii "\n")
