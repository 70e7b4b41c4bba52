-- A tape handed over in any chunks, with any buffers, is listed as the whole tape is; and there is a session of every tape.
-- Assumes nothing.
use mathlib.Core.Path.{◌≡◌, refl, sym, ap, ap₂, subst⁻¹, ◌∙◌}
use mathlib.Core.Logic.{inl, inr}
use mathlib.Core.Bool.{Bool, true, false}
use mathlib.Core.List.{List, [], ◌∷◌, ◌++◌}
use Prim.Native.Nat.{ℕ, ◌+◌, ◌-◌, ◌≤◌}
use native.Mathlib.Nat.{add-zero, zero-add}
use native.Mathlib.Decide.{dec_le}
use native.Mathlib.Omega.{arith}
use borrow.Author.Tests.{le-ltb}
use lib.ListN.{length, take, drop, replicate, length-replicate, drop_of_length-le}
use Rattle.std.specs.Prelude.{Result, Ok}
use Rattle.ground.specs.declared.refusal.Refusal.{Refusal}
use Rattle.ground.specs.Laying.{laid, Ended, ended}
use Rattle.ground.proofs.Laws.Lists.{drop-on, drop-none}
use Rattle.ground.proofs.Laws.Laying.{take-front, put_refused, put-placed, take-placed}
use Rattle.ground.proofs.Laws.Unique.{out-ended}
use Rattle.tape_spec.specs.Limits.{least_room}
use Rattle.tape_spec.specs.Rows.{header_row, last_row}
use Rattle.tape_spec.specs.declared.tape.Tape.{Tape}
use Rattle.tape_spec.specs.declared.tape.Listed.{Listed}
use Rattle.tape_spec.specs.Whole.{parts, fresh_receivers, entries, entry_rows, event_rows, listing}
use Rattle.tape_spec.specs.Frames.{Shows}
use Rattle.tape_spec.specs.Taping.{fresh_tape, advanced, is_over, going, ListedOut, listed_out, not_listed, text_written, bad_tape, listed, last_row_of}
use Rattle.tape_spec.specs.Sessions.{RowWritten, TapeSession, over, call, Listing, begun}
use Rattle.tape_spec.proofs.Laws.Fine.{step-fine}
use Rattle.tape_spec.proofs.Laws.Taping.{out-listed, listed-elim, fresh-fine}
use Rattle.tape_spec.proofs.Laws.Remaining.{remaining, going-remains, over-remains, remaining-listed}
use Rattle.tape_spec.proofs.Laws.Frames.{frames-shown}

-- ---- what is written

-- a call that was not refused wrote the whole row
written_row : {row text : List ℕ} → RowWritten row text → text ≡ row
written_row {row} {text} w = go (dec_le (length row) (length w.out - 0))
  where
    go : Dec (length row ≤ length w.out - 0) → text ≡ row
    go (yes fits) =
        w.writes
        ∙ ap (take (ended 0 w.result w.last).end) (sym (out-ended 0 w.result w.last))
        ∙ ap (λ (d : Ended). take d.end d.out) (w.says ∙ put-placed row w.out 0 fits)
        ∙ take-placed row w.out
    go (no short) =
        absurd (let e = sym w.fine ∙ ap (λ (d : Ended). d.refusal) (w.says ∙ put_refused row w.out 0 (omega arith)) in omega arith)

module _ (bytes : List ℕ) where
  -- a call took and wrote a part of what is left, by its statement
  Continues : Tape → ℕ → ListedOut → Type 0
  Continues t before d = take d.written d.out ++ remaining d.tape (drop (before + d.taken) bytes) ≡ remaining t (drop before bytes)

  refused-continues : (t : Tape) (before : ℕ) (out : List ℕ) (why : Refusal) → Continues t before (not_listed why t out)
  unfolding Continues
  refused-continues t before out why = rw (add-zero before)

  writing-continues : (t : Tape) (before : ℕ) (chunk rest out : List ℕ) → drop before bytes ≡ chunk ++ rest
      → Continues t before (text_written (going (length out) t chunk) out)
  unfolding Continues
  writing-continues t before chunk rest out continues =
      let g = going (length out) t chunk in
      ap₂ (λ (x y : List ℕ). x ++ remaining g.tape y) (take-front out g.text)
      (drop-on bytes before g.taken continues)
      ∙ sym (going-remains chunk rest (length out) t)
      ∙ ap (remaining t) (sym continues)

  call-continues : (t : Tape) (before : ℕ) (chunk rest out : List ℕ) → drop before bytes ≡ chunk ++ rest
      → Continues t before (listed t chunk out)
  call-continues t before chunk rest out continues =
      listed-elim (Continues t before) t chunk out (refused-continues t before out)
      (λ fine roomy. writing-continues t before chunk rest out continues)

  session-remains : {t : Tape} {before : ℕ} {text : List ℕ} → TapeSession bytes t before text → text ≡ remaining t (drop before bytes)
  unfolding remaining Continues
  session-remains {t} (over (inl out) last) = written_row last ∙ ap (remaining t) (sym (drop_of_length-le bytes out))
  session-remains {t} {before} (over (inr out) last) = written_row last ∙ sym (over-remains (drop before bytes) t out)
  session-remains {t} {before} (call chunk rest out last r continues says more) =
      let d = listed_out t r last in
      ap₂ (λ (o l : List ℕ). take d.written o ++ l) (sym (out-listed t r last)) (session-remains more)
      ∙ subst⁻¹ (Continues t before) says (call-continues t before chunk rest out continues)

-- the theorem: whatever the chunks and the buffers were, the text is the listing of the whole tape
pub listing-is : {bytes text : List ℕ} → Listing bytes text → text ≡ listing bytes
unfolding listing
listing-is {bytes} (begun header fresh session) =
    let p = parts 0 bytes in
    ap₂ ◌++◌ (written_row header)
    (session-remains bytes session
    ∙ ap (λ (t : Tape). remaining t bytes) fresh
    ∙ remaining-listed bytes 0 fresh_receivers
    ∙ ap (λ (n : ℕ). event_rows 0 fresh_receivers p.records ++ last_row p.ending n) (zero-add (length p.records)))

-- so its rows are the entries', and the FRAMEs among these exactly the frames that stand in what was heard on their line
pub listing-shows : {bytes text : List ℕ} → Listing bytes text
    → let p = parts 0 bytes in let all = entries 0 fresh_receivers p.records in
    (text ≡ header_row ++ (entry_rows all ++ last_row p.ending (length p.records))) × Shows p.records all
unfolding listing
listing-shows {bytes} l = (listing-is l, frames-shown (parts 0 bytes).records)

-- ---- a session of every tape

-- a buffer as long as the row takes it
row_written : (row : List ℕ) → RowWritten row row
row_written row =
    let out : List ℕ = replicate (length row) 0 in
    let fits : length row ≤ length out - 0 = rw (length-replicate {A = ℕ} (length row) 0) (omega arith) in
    record {
      result = Ok (0 + length row);
      out = out;
      last = laid out 0 row;
      says = sym (put-placed row out 0 fits);
      fine = refl;
      writes = sym (take-placed row out);
    }

-- what a call on one byte answers where there is room
byte-listed : (t : Tape) (b : ℕ) (out : List ℕ) → bad_tape t ≡ false → is_over t.next ≡ false → least_room ≤ length out
    → let s = advanced t b in
    text_written (record { tape = s.tape; taken = 1; text = s.text ++ [] }) out ≡ listed t (b ∷ []) out
unfolding listed going
byte-listed t b out fine more roomy = rw (fine, le-ltb (length out) least_room roomy, more)

module _ (bytes : List ℕ) where
  abbrev Some : Tape → ℕ → Type 0
  Some t before = (text : List ℕ) × TapeSession bytes t before text

  -- one call on one byte
  some_byte : (t : Tape) (before b : ℕ) (l out : List ℕ) → drop before bytes ≡ b ∷ l → bad_tape t ≡ false → is_over t.next ≡ false
      → least_room ≤ length out → Some (advanced t b).tape (before + 1) → Some t before
  some_byte t before b l out left fine more roomy rest =
      let s = advanced t b in
      let text = s.text ++ [] in
      let r : Result Listed Refusal = Ok (record { tape = s.tape; taken = 1; written = length text }) in
      (_, call (b ∷ []) l out (laid out 0 text) r left (byte-listed t b out fine more roomy) rest.1)

  some : (l : List ℕ) (t : Tape) (before : ℕ) → drop before bytes ≡ l → bad_tape t ≡ false → Some t before
  some [] t before left fine = (_, over (inl (drop-none bytes before left)) (row_written (last_row_of t)))
  some (b ∷ l) t before left fine =
      go (is_over t.next) refl (some l (advanced t b).tape (before + 1) (drop-on bytes before 1 left) (step-fine t b fine))
    where
      go : (e : Bool) → is_over t.next ≡ e → Some (advanced t b).tape (before + 1) → Some t before
      go true e rest = (_, over (inr e) (row_written (last_row_of t)))
      go false e rest = some_byte t before b l (replicate least_room 0) left fine e (omega arith) rest

pub listing-some : (bytes : List ℕ) → (text : List ℕ) × Listing bytes text
listing-some bytes = (_, begun (row_written header_row) refl (some bytes bytes fresh_tape 0 refl fresh-fine).1)
