-- The longest row has room in the stated least room; which row an event has.
-- Assumes nothing.
use mathlib.Core.Path.{◌≡◌, refl}
use mathlib.Core.Bool.{false, true≢false}
use mathlib.Core.List.{List, []}
use Prim.Native.Nat.{ℕ, ◌≤◌, zero-le}
use native.Mathlib.Omega.{arith}
use lib.ListN.{length, length-append}
use Rattle.wire_spec.specs.Limits.{most_content}
use Rattle.link_spec.specs.Events.{Name, NONE, FRAME, CHECK, SHORT, LONG, PAIR, ADDR, happened}
use Rattle.link_spec.specs.Receiving.{Said}
use Rattle.text.specs.Ascii.{ascii}
use Rattle.text.proofs.Laws.Decimal.{length-decimal}
use Rattle.text.proofs.Laws.Hex.{pairs-within}
use Rattle.tape_spec.specs.declared.tape.Ending.{Ending}
use Rattle.tape_spec.specs.declared.tape.Ending.TheVariants.{End, Cut, Bad, Full}
use Rattle.tape_spec.specs.declared.tape.Line.{Line}
use Rattle.tape_spec.specs.declared.tape.Line.TheVariants.{Point, Addressed}
use Rattle.tape_spec.specs.Limits.{most_records, least_room, most_last}
use Rattle.tape_spec.specs.Rows.{header_row, letter, row, event_row, carried, heard_row, word, last_row, name_of}

pub length-letter : (line : Line) → length (letter line) ≡ 3
unfolding letter ascii
length-letter Point = refl
length-letter Addressed = refl

length-word : (e : Ending) → length (word e) ≤ 5
unfolding word ascii
length-word End = omega arith
length-word Cut = omega arith
length-word Bad = omega arith
length-word Full = omega arith

pub length-name : (event : Name) → length (name_of event) ≤ 6
unfolding name_of ascii
length-name NONE = zero-le
length-name FRAME = omega arith
length-name CHECK = omega arith
length-name SHORT = omega arith
length-name LONG = omega arith
length-name PAIR = omega arith
length-name ADDR = omega arith

pub row_within : (n : ℕ) (line : Line) (name content : List ℕ) → n ≤ most_records → length name ≤ 6 → length content ≤ most_content
    → length (row n line name content) ≤ least_room
unfolding row ascii
row_within n line name content few short fits =
    let d = length-decimal n few in
    let l = length-letter line in
    let p = pairs-within content most_content (omega arith) fits in
    simp length-append (omega arith)

pub event-within : (n : ℕ) (line : Line) (event : Name) (content : List ℕ) → n ≤ most_records → length content ≤ most_content
    → length (event_row n line event content) ≤ least_room
unfolding event_row
event-within n line NONE content few fits = zero-le
event-within n line FRAME content few fits = row_within n line (name_of FRAME) content few (length-name FRAME) fits
event-within n line CHECK content few fits = row_within n line (name_of CHECK) [] few (length-name CHECK) zero-le
event-within n line SHORT content few fits = row_within n line (name_of SHORT) [] few (length-name SHORT) zero-le
event-within n line LONG content few fits = row_within n line (name_of LONG) [] few (length-name LONG) zero-le
event-within n line PAIR content few fits = row_within n line (name_of PAIR) [] few (length-name PAIR) zero-le
event-within n line ADDR content few fits = row_within n line (name_of ADDR) [] few (length-name ADDR) zero-le

-- and the longest last row in its places
pub last_within : (e : Ending) (n : ℕ) → n ≤ most_records → length (last_row e n) ≤ most_last
unfolding last_row ascii
last_within e n few =
    let w = length-word e in
    let d = length-decimal n few in
    simp length-append (omega arith)

-- the header row has room too
pub header-within : length header_row ≤ least_room
unfolding header_row ascii
header-within = omega arith

-- ---- which row an event has

-- none where nothing happened
pub no_row : (n : ℕ) (line : Line) (said : Said) → happened said.event ≡ false → heard_row n line said ≡ []
unfolding event_row
no_row n line said quiet = go said.event quiet
  where
    go : (event : Name) → happened event ≡ false → event_row n line event (carried said) ≡ []
    go NONE e = refl
    go FRAME e = absurd (true≢false e)
    go CHECK e = absurd (true≢false e)
    go SHORT e = absurd (true≢false e)
    go LONG e = absurd (true≢false e)
    go PAIR e = absurd (true≢false e)
    go ADDR e = absurd (true≢false e)

-- FRAME's shows the content
pub frame_row : (n : ℕ) (line : Line) (content : List ℕ) → row n line (name_of FRAME) content ≡ event_row n line FRAME content
unfolding event_row
frame_row n line content = refl
