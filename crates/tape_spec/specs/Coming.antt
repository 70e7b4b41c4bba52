-- What a tape's next byte is, in the paper's words and numbers. 01, The listing program. Assumes nothing.
use Rattle.std.specs.Prelude.{ℕ, Bool, cond, ◌||◌, eqb}
use Rattle.tape_spec.specs.declared.tape.Line.TheVariants.{Point, Addressed}
use Rattle.tape_spec.specs.declared.tape.Next.{Next}
use Rattle.tape_spec.specs.declared.tape.Next.TheVariants.{Kind, Body, Bad, Full}
use Rattle.tape_spec.specs.Limits.{most_records}
use Rattle.tape_spec.specs.Whole.{kind_of}

-- a record's kind; the body of a record of this kind; or nothing that is read, since the tape is `bad` or `full`
pub data Coming : Type 0 where
  KIND : Coming
  BODY : ℕ → Coming
  BAD FULL : Coming

abbrev pub coming : Next → Coming
coming Kind = KIND
coming (Body line) = BODY (kind_of line)
coming Bad = BAD
coming Full = FULL

-- 01 or 02
abbrev pub is_kind : ℕ → Bool
is_kind k = eqb k (kind_of Point) || eqb k (kind_of Addressed)

-- after a kind byte that comes after this many whole records: its body; `full` after 2^32 - 1 records, else `bad` where the kind is unknown
unfoldable pub coming_after : ℕ → ℕ → Coming
coming_after records k = cond (eqb records most_records) FULL (cond (is_kind k) (BODY k) BAD)
