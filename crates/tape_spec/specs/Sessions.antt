-- A session: a whole tape handed over in chunks, cut at will, each continuing where the last call stopped, with any buffers, and the
-- text that the calls wrote. Assumes nothing.
use Rattle.std.specs.Prelude.{ℕ, ◌+◌, ◌≤◌, ◌≡◌, ◌⊎◌, true, List, ◌++◌, length, take, drop, Result}
use Rattle.ground.specs.declared.refusal.Refusal.{Refusal}
use Rattle.ground.specs.Laying.{ended, put}
use Rattle.tape_spec.specs.Rows.{header_row}
use Rattle.tape_spec.specs.declared.tape.Tape.{Tape}
use Rattle.tape_spec.specs.declared.tape.Listed.{Listed}
use Rattle.tape_spec.specs.Taping.{is_over, listed_out, listed, last_row_of, fresh_tape}

-- a row written by a call that was not refused: by its statement, to a buffer that held any bytes before
pub record RowWritten (row text : List ℕ) : Type 0 where
  pub result : Result ℕ Refusal
  pub out : List ℕ
  pub last : List ℕ
  pub says : ended 0 result last ≡ put row out 0
  pub fine : (ended 0 result last).refusal ≡ 0
  pub writes : text ≡ take (ended 0 result last).end last

-- What is left of a tape after this many bytes, and the text of its calls: either the tape is used up or nothing further is read, and the
-- last row is written; or there is one call more, on any chunk, empty too, that continues there, with any buffer, and the session goes on
-- with the tape that the call answered, after the bytes that it took. A refused call is one of these: it takes and writes nothing.
pub data TapeSession (bytes : List ℕ) : Tape → ℕ → List ℕ → Type 0 where
  over : {t : Tape} {before : ℕ} {text : List ℕ}
      → (length bytes ≤ before) ⊎ (is_over t.next ≡ true)
      → RowWritten (last_row_of t) text
      → TapeSession bytes t before text
  call : {t : Tape} {before : ℕ} {more : List ℕ} (chunk rest out last : List ℕ) (r : Result Listed Refusal)
      → drop before bytes ≡ chunk ++ rest
      → listed_out t r last ≡ listed t chunk out
      → TapeSession bytes (listed_out t r last).tape (before + (listed_out t r last).taken) more
      → TapeSession bytes t before (take (listed_out t r last).written last ++ more)

-- the header row, and then a session of the whole tape from a fresh one on
pub data Listing (bytes : List ℕ) : List ℕ → Type 0 where
  begun : {t : Tape} {header more : List ℕ}
      → RowWritten header_row header
      → t ≡ fresh_tape
      → TapeSession bytes t 0 more
      → Listing bytes (header ++ more)
