-- A part of a tape, split into what was heard on either line. It serves contracts of private functions. Assumes nothing.
use Rattle.std.specs.Prelude.{ℕ, ◌+◌, List, ◌++◌, length, take}
use Rattle.tape_spec.specs.declared.tape.Line.TheVariants.{Point, Addressed}
use Rattle.tape_spec.specs.declared.tape.Next.{Next}
use Rattle.tape_spec.specs.Frames.{bytes_on}
use Rattle.totals_spec.specs.Adding.{chunk_of}
use Rattle.totals.specs.declared.split.Parted.{Parted}

-- the records after a part, what its next byte is, and the bytes of either line
pub record Pieces : Type 0 where
  pub records : ℕ
  pub next : Next
  pub point : List ℕ
  pub addressed : List ℕ

abbrev pub pieces : ℕ → Next → List ℕ → List ℕ → Pieces
pieces records next point addressed = record { records = records; next = next; point = point; addressed = addressed }

-- a call's result, with the bytes at the front of what was lent
abbrev pub parted_in : Parted → List ℕ → List ℕ → Pieces
parted_in r point addressed = pieces r.records r.next (take r.point point) (take r.addressed addressed)

-- what is left of a part, after these bytes of either line
abbrev pub split_on : ℕ → Next → List ℕ → List ℕ → List ℕ → Pieces
split_on n next rest point addressed =
    let c = chunk_of n next rest in
    pieces (n + length c.records) c.next (point ++ bytes_on Point c.records) (addressed ++ bytes_on Addressed c.records)
