-- Which frames a listing has to show: demand 3 of both lines, said of a tape. A frame counts when its complete wire image stands in what
-- was heard on its line, and otherwise it does not. 01, The listing program, and demand 3 in How much each call must say. Assumes nothing.
use Rattle.std.specs.Prelude.{ℕ, ◌+◌, ◌≤◌, ◌≡◌, length}
use mathlib.Core.List.{List, [], ◌∷◌, ◌++◌, Memᴰ}
use Rattle.link_spec.specs.Events.{FRAME}
use Rattle.link_spec.specs.Listing.{Stands}
use Rattle.tape_spec.specs.declared.tape.Line.{Line}
use Rattle.tape_spec.specs.declared.tape.Line.TheVariants.{Point, Addressed}
use Rattle.tape_spec.specs.Whole.{Record, heard_on, Entry, entry, station_on}

-- ---- what was heard on a line

-- a record's byte, where it was heard on this line
abbrev pub byte_on : Line → Record → List ℕ
byte_on Point (heard_on Point b) = b ∷ []
byte_on Point (heard_on Addressed b) = []
byte_on Addressed (heard_on Point b) = []
byte_on Addressed (heard_on Addressed b) = b ∷ []

-- the bytes heard on a line, in order
unfoldable pub bytes_on : Line → List Record → List ℕ
bytes_on line [] = []
bytes_on line (r ∷ rs) = byte_on line r ++ bytes_on line rs

-- after this number of records stands the one that has the byte at this place of its line (the first byte's place is 1)
pub record HasByte (records : List Record) (number : ℕ) (line : Line) (place : ℕ) : Type 0 where
  pub before : List Record
  pub byte : ℕ
  pub after : List Record
  pub split : records ≡ before ++ (heard_on line byte ∷ after)
  pub numbered : number ≡ length before
  pub placed : place ≡ length (bytes_on line before) + 1

-- ---- demand 3

-- numbers strictly rise, from a number on
abbrev pub NumbersRise : ℕ → List Entry → Type 0
NumbersRise least [] = Unit {0}
NumbersRise least (e ∷ es) = (least ≤ e.number) × NumbersRise (e.number + 1) es

-- the FRAME entries are exactly those of the frames that stand in what was heard on their line, each once, in tape order, at the record
-- that has the frame's last byte
pub record Shows (records : List Record) (all : List Entry) : Type 0 where
  pub rise : NumbersRise 0 all
  pub each : (line : Line) (place : ℕ) (front : List ℕ) → Stands (station_on line) (bytes_on line records) place front
      → (number : ℕ) × HasByte records number line place × Memᴰ (entry number line FRAME front) all
  pub only : (number : ℕ) (line : Line) (front : List ℕ) → Memᴰ (entry number line FRAME front) all
      → (place : ℕ) × HasByte records number line place × Stands (station_on line) (bytes_on line records) place front
