-- The listing of a whole tape. 01, The listing program. Assumes nothing.
use Rattle.std.specs.Prelude.{ℕ, ◌+◌, cond, List, [], ◌∷◌, ◌++◌, eqb, length}
use Rattle.link_spec.specs.declared.station.Station.{Station}
use Rattle.link_spec.specs.declared.station.Station.TheVariants as station
use Rattle.link_spec.specs.declared.receiver.Receiver.{Receiver}
use Rattle.link_spec.specs.Events.{Name, happened}
use Rattle.link_spec.specs.Receiving.{fresh_receiver, Said, received}
use Rattle.tape_spec.specs.declared.tape.Line.{Line}
use Rattle.tape_spec.specs.declared.tape.Line.TheVariants.{Point, Addressed}
use Rattle.tape_spec.specs.declared.tape.Ending.{Ending}
use Rattle.tape_spec.specs.declared.tape.Ending.TheVariants.{End as END, Cut as CUT, Bad as BAD, Full as FULL}
use Rattle.tape_spec.specs.Rows.{header_row, event_row, carried, last_row}
use Rattle.tape_spec.specs.declared.tape.Receivers.{Receivers}
use Rattle.tape_spec.specs.Limits.{most_records}

-- ---- records

-- a record of the tape: a byte, and the line on which it was heard
pub data Record : Type 0 where
  heard_on : Line → ℕ → Record

-- kind 01: one byte heard on the point line; kind 02: one byte heard on an addressed line by its master
abbrev pub kind_of : Line → ℕ
kind_of Point = 0x01
kind_of Addressed = 0x02

-- one byte of kind, then the body
unfoldable pub taped : List Record → List ℕ
taped [] = []
taped (heard_on line b ∷ rs) = kind_of line ∷ b ∷ taped rs

pub data Kind : Type 0 where
  known : Line → Kind
  unknown : Kind

unfoldable pub kind : ℕ → Kind
kind k = cond (eqb k (kind_of Point)) (known Point) (cond (eqb k (kind_of Addressed)) (known Addressed) unknown)

-- the whole records of a tape, and how it ends
pub record Parts : Type 0 where
  pub records : List Record
  pub ending : Ending

abbrev pub no_more : Ending → Parts
no_more ending = record { records = []; ending = ending }

-- a kind at the tape's end: its body is missing
abbrev pub bodyless : Kind → Ending
bodyless (known line) = CUT
bodyless unknown = BAD

-- a kind and a byte after it: a record before others; after an unknown kind nothing is read further
abbrev pub before : Kind → ℕ → Parts → Parts
before (known line) b parts = record { records = heard_on line b ∷ parts.records; ending = parts.ending }
before unknown b parts = no_more BAD

-- after n whole records; a byte after 2^32 - 1 records is `full`, and nothing is read further
unfoldable pub parts : ℕ → List ℕ → Parts
parts n [] = no_more END
parts n (k ∷ []) = no_more (cond (eqb n most_records) FULL (bodyless (kind k)))
parts n (k ∷ b ∷ bs) = cond (eqb n most_records) (no_more FULL) (before (kind k) b (parts (n + 1) bs))

-- ---- lines

-- the point line, or an addressed line as its master hears it
abbrev pub station_on : Line → Station
station_on Point = station.Point
station_on Addressed = station.Addressed 0x00

abbrev pub fresh_receivers : Receivers
fresh_receivers = record { point = fresh_receiver (station_on Point); addressed = fresh_receiver (station_on Addressed) }

abbrev pub receiver_on : Line → Receivers → Receiver
receiver_on Point r = r.point
receiver_on Addressed r = r.addressed

-- the receivers, with another on this line
abbrev pub with_receiver : Line → Receiver → Receivers → Receivers
with_receiver Point receiver r = record { point = receiver; addressed = r.addressed }
with_receiver Addressed receiver r = record { point = r.point; addressed = receiver }

-- what a row shows: the number of records before the event's, the line, the event, and the content without check
pub record Entry : Type 0 where
  pub number : ℕ
  pub line : Line
  pub event : Name
  pub content : List ℕ

abbrev pub entry : ℕ → Line → Name → List ℕ → Entry
entry number line event content = record { number = number; line = line; event = event; content = content }

-- the entry of a record of which the receiver said this, unless nothing happened
unfoldable pub entry_of : ℕ → Line → Said → List Entry
entry_of number line said =
    cond (happened said.event) (entry number line said.event (carried said) ∷ []) []

-- the entries of records after n others: each record's byte goes to the receiver of its line
unfoldable pub entries : ℕ → Receivers → List Record → List Entry
entries n r [] = []
entries n r (heard_on line b ∷ rs) =
    let said = received (receiver_on line r) (b ∷ []) in
    entry_of n line said ++ entries (n + 1) (with_receiver line said.receiver r) rs

-- their text, one row per entry
unfoldable pub entry_rows : List Entry → List ℕ
entry_rows [] = []
entry_rows (e ∷ es) = event_row e.number e.line e.event e.content ++ entry_rows es

abbrev pub event_rows : ℕ → Receivers → List Record → List ℕ
event_rows n r rs = entry_rows (entries n r rs)

-- header, one row per event, last row
unfoldable pub listing : List ℕ → List ℕ
listing tape =
    let p = parts 0 tape in
    header_row ++ (event_rows 0 fresh_receivers p.records ++ last_row p.ending (length p.records))
