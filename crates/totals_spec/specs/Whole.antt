-- The report of a whole tape. 02, L1. Assumes nothing.
use Rattle.std.specs.Prelude.{ℕ, ◌+◌, ◌*◌, Bool, true, false, cond, ◌&&◌, List, [], ◌∷◌, ltb, pos, ◌-ℤ◌, length}
use Rattle.ground.specs.declared.refusal.Refusal.{Refusal}
use Rattle.ground.specs.declared.refusal.Refusal.TheVariants.{TapeTooLong}
use Rattle.ground.specs.Refusals.{number}
use Rattle.wire_spec.specs.Image.{image}
use Rattle.link_spec.specs.declared.station.Station.{Station}
use Rattle.link_spec.specs.Events.{Name, NONE, FRAME, CHECK, SHORT, LONG, PAIR, ADDR}
use Rattle.link_spec.specs.Station.{checked}
use Rattle.tape_spec.specs.declared.tape.Line.{Line}
use Rattle.tape_spec.specs.declared.tape.Line.TheVariants.{Point, Addressed}
use Rattle.tape_spec.specs.declared.tape.Ending.{Ending}
use Rattle.tape_spec.specs.declared.tape.Ending.TheVariants.{End as END, Cut as CUT, Bad as BAD, Full as FULL}
use Rattle.tape_spec.specs.Whole.{Record, Entry, parts, station_on, fresh_receivers, entries}
use Rattle.tape_spec.specs.Frames.{bytes_on}
use Rattle.totals_spec.specs.declared.totals.Sums.{Sums}
use Rattle.totals_spec.specs.declared.totals.LineReport.{LineReport}

-- ---- one line

abbrev pub is_frame : Name → Bool
is_frame NONE = false
is_frame FRAME = true
is_frame CHECK = false
is_frame SHORT = false
is_frame LONG = false
is_frame PAIR = false
is_frame ADDR = false

abbrev pub is_on : Line → Line → Bool
is_on Point Point = true
is_on Point Addressed = false
is_on Addressed Point = false
is_on Addressed Addressed = true

-- what the FRAMEs show that a listing has for a line, in order
unfoldable pub fronts_on : Line → List Entry → List (List ℕ)
fronts_on line [] = []
fronts_on line (e ∷ es) =
    let more = fronts_on line es in
    cond (is_frame e.event && is_on line e.line) (e.content ∷ more) more

-- the bytes inside a listed image
abbrev pub image_bytes : Station → List ℕ → ℕ
image_bytes station front = length (image (checked station front))

-- the planner reserves 2 + 2 × content bytes for each frame; content counts with its check
abbrev pub reserved_bytes : Station → List ℕ → ℕ
reserved_bytes station front = 2 + 2 * length (checked station front)

-- the sum over frames
unfoldable pub sum_over : (List ℕ → ℕ) → List (List ℕ) → ℕ
sum_over size [] = 0
sum_over size (front ∷ fronts) = size front + sum_over size fronts

abbrev pub sums_of : ℕ → ℕ → ℕ → ℕ → Sums
sums_of frames heard inside reserved = record { frames = frames; heard = heard; inside = inside; reserved = reserved }

-- the frames listed, bytes heard, bytes inside listed images and bytes reserved, of a line in whole records with these entries of a listing
abbrev pub sums_over : Line → List Record → List Entry → Sums
sums_over line records all =
    let fronts = fronts_on line all in
    let station = station_on line in
    sums_of (length fronts) (length (bytes_on line records)) (sum_over (image_bytes station) fronts) (sum_over (reserved_bytes station) fronts)

-- with the entries of their listing
abbrev pub sums_on : Line → List Record → Sums
sums_on line records = sums_over line records (entries 0 fresh_receivers records)

-- with reserved minus heard as a signed number
abbrev pub line_report : Line → Sums → LineReport
line_report line sums = record { line = line; sums = sums; difference = pos sums.reserved -ℤ pos sums.heard }

-- ---- both lines

-- a call's result in the paper's numbers
pub record Reported : Type 0 where
  pub refusal : ℕ
  pub first : LineReport
  pub second : LineReport
  pub ending : Ending
  pub records : ℕ

abbrev pub in_order : LineReport → LineReport → Ending → ℕ → Reported
in_order first second ending records = record { refusal = 0; first = first; second = second; ending = ending; records = records }

-- ranked by bytes heard, the point line first when equal
unfoldable pub ranked : Sums → Sums → Ending → ℕ → Reported
ranked point addressed ending records =
    let p = line_report Point point in
    let a = line_report Addressed addressed in
    cond (ltb point.heard addressed.heard) (in_order a p ending records) (in_order p a ending records)

abbrev pub nothing : Sums
nothing = sums_of 0 0 0 0

-- a refused call answers the number and no report: zeros
abbrev pub no_report : Refusal → Reported
no_report why =
    record { refusal = number why; first = line_report Point nothing; second = line_report Addressed nothing; ending = END; records = 0 }

-- a byte follows the last permitted record
abbrev pub is_full : Ending → Bool
is_full END = false
is_full CUT = false
is_full BAD = false
is_full FULL = true

-- 10 TapeTooLong, with no report, if any byte follows the last permitted record; after `cut` or `bad` the whole records before it are
-- reported
unfoldable pub report_of : List ℕ → Reported
report_of tape =
    let p = parts 0 tape in
    let rs = p.records in
    cond (is_full p.ending) (no_report TapeTooLong) (ranked (sums_on Point rs) (sums_on Addressed rs) p.ending (length rs))
