-- What a call on a chunk answers: when it refuses, that what it takes and writes has room, and that it takes something.
-- Assumes nothing.
use mathlib.Core.Path.{◌≡◌, refl, ap}
use mathlib.Core.Bool.{true, false, ◌||◌}
use mathlib.Core.List.{List, [], ◌∷◌, ◌++◌}
use Prim.Native.Nat.{ℕ, ◌+◌, ◌-◌, ◌≤◌, ◌<◌, zero-le}
use native.Mathlib.Omega.{arith}
use borrow.Author.Tests.{lt-ltb, le-ltb, ltb-false}
use lib.Dec.{ltb}
use lib.ListN.{length, length-append, length-take}
use Rattle.std.specs.Prelude.{Result, Ok, Err}
use Rattle.ground.specs.declared.refusal.Refusal.{Refusal}
use Rattle.ground.specs.declared.refusal.Refusal.TheVariants.{NoRoom, BadState}
use Rattle.ground.specs.Refusals.{Keeps}
use Rattle.ground.proofs.Laws.Choice.{cond-elim, or-none}
use Rattle.link_spec.specs.declared.receiver.Receiver.{Receiver}
use Rattle.link_spec.specs.Receiving.{received}
use Rattle.link_spec.proofs.Laws.Receiving.{length-within}
use Rattle.tape_spec.specs.declared.tape.Line.{Line}
use Rattle.tape_spec.specs.Limits.{least_room, most_records}
use Rattle.tape_spec.specs.Rows.{carried, heard_row}
use Rattle.tape_spec.proofs.Laws.Rows.{event-within}
use Rattle.tape_spec.specs.declared.tape.Next.{Next}
use Rattle.tape_spec.specs.declared.tape.Next.TheVariants.{Kind, Body, Bad, Full}
use Rattle.tape_spec.specs.declared.tape.Tape.{Tape}
use Rattle.tape_spec.specs.declared.tape.Listed.{Listed}
use Rattle.tape_spec.specs.Whole.{receiver_on}
use Rattle.tape_spec.specs.Taping.{fresh_tape, advance, advanced, is_over, Went, standing, after_step, going, ListedOut, listed_out, not_listed, text_written, bad_tape, listed}
use Rattle.tape_spec.proofs.Laws.Fine.{body-permitted, step-fine}

-- what a call left is the buffer, refused or not
pub out-listed : (t : Tape) (r : Result Listed Refusal) (out : List ℕ) → (listed_out t r out).out ≡ out
out-listed t (Ok r) out = refl
out-listed t (Err why) out = refl

-- ---- rows 4 and 1 of the refusal table, in this order, and the text where neither applies

module _ (t : Tape) (chunk out : List ℕ) where
  pub refuses-state : bad_tape t ≡ true → listed t chunk out ≡ not_listed BadState t out
  unfolding listed
  refuses-state bad = rw bad

  pub refuses-room : bad_tape t ≡ false → length out < least_room → listed t chunk out ≡ not_listed NoRoom t out
  unfolding listed
  refuses-room fine short = rw (fine, lt-ltb (length out) least_room short)

  pub lists-chunk : bad_tape t ≡ false → least_room ≤ length out → listed t chunk out ≡ text_written (going (length out) t chunk) out
  unfolding listed
  lists-chunk fine roomy = rw (fine, le-ltb (length out) least_room roomy)

-- so what holds of every refusal, and of the text where there is none, holds of what a call answers
pub listed-elim : (P : ListedOut → Type 0) (t : Tape) (chunk out : List ℕ) → ((why : Refusal) → P (not_listed why t out))
    → (bad_tape t ≡ false → least_room ≤ length out → P (text_written (going (length out) t chunk) out))
    → P (listed t chunk out)
unfolding listed
listed-elim P t chunk out refused lists =
    cond-elim P (bad_tape t) (λ bad. refused BadState)
    (λ fine. cond-elim P (ltb (length out) least_room) (λ short. refused NoRoom)
    (λ roomy. lists fine (ltb-false (length out) least_room roomy)))

-- so a refused call leaves tape and buffer as before
pub listed-keeps : (t : Tape) (chunk out : List ℕ)
    → Keeps (listed t chunk out).refusal t (listed t chunk out).tape × Keeps (listed t chunk out).refusal out (listed t chunk out).out
listed-keeps t chunk out =
    listed-elim (λ (d : ListedOut). Keeps d.refusal t d.tape × Keeps d.refusal out d.out) t chunk out
    (λ why. ((λ refused. refl), (λ refused. refl))) (λ fine roomy. ((λ refused. absurd (refused refl)), (λ refused. absurd (refused refl))))

-- and what holds where it stands, and goes back over a byte that it takes, holds of how it goes over its chunk
module _ (P : ℕ → Tape → List ℕ → Went → Type 0)
    (stands : (room : ℕ) (t : Tape) (chunk : List ℕ) → P room t chunk (standing t))
    (more : (room : ℕ) (t : Tape) (b : ℕ) (bs : List ℕ) (m : Went) → is_over t.next ≡ false → least_room ≤ room
    → P (room - length (advanced t b).text) (advanced t b).tape bs m → P room t (b ∷ bs) (after_step (advanced t b) m)) where
  pub going-elim : (chunk : List ℕ) (room : ℕ) (t : Tape) → P room t chunk (going room t chunk)
  unfolding going
  going-elim [] room t = stands room t []
  going-elim (b ∷ bs) room t =
      let s = advanced t b in
      let m = going (room - length s.text) s.tape bs in
      let rest = going-elim bs (room - length s.text) s.tape in
      cond-elim (P room t (b ∷ bs)) (is_over t.next || ltb room least_room) (λ stops. stands room t (b ∷ bs))
      (λ goes. let e = or-none (is_over t.next) (ltb room least_room) goes in
      more room t b bs m e.0 (ltb-false room least_room e.1) rest)

-- ---- what it takes and writes has room

-- the row of a call has room where the longest has
pub heard-row-within : (n : ℕ) (line : Line) (s : Receiver) (piece : List ℕ) → n ≤ most_records
    → length (heard_row n line (received s piece)) ≤ least_room
heard-row-within n line s piece few =
    let said = received s piece in
    event-within n line said.event (carried said) (omega arith)
    (omega (arith, length-take said.length said.content, length-within s piece))

-- a byte counts one record at most, and none after the last permitted
step-few : (next : Next) (t : Tape) (b : ℕ) → t.next ≡ next → bad_tape t ≡ false → t.records ≤ most_records
    → ((advance next t b).tape.records ≤ most_records) × (length (advance next t b).text ≤ least_room)
unfolding advance
step-few Kind t b e fine few = (few, zero-le)
step-few (Body line) t b e fine few =
    let permitted = body-permitted t.records line t.receivers (rw e at fine) few in
    (omega arith, heard-row-within t.records line (receiver_on line t.receivers) (b ∷ []) few)
step-few Bad t b e fine few = (few, zero-le)
step-few Full t b e fine few = (few, zero-le)

going-within : (chunk : List ℕ) (room : ℕ) (t : Tape) → bad_tape t ≡ false → t.records ≤ most_records
    → let g = going room t chunk in (g.taken ≤ length chunk) × (length g.text ≤ room) × (g.tape.records ≤ most_records)
going-within =
    going-elim
    (λ (room : ℕ) (t : Tape) (chunk : List ℕ) (g : Went). bad_tape t ≡ false → t.records ≤ most_records
    → (g.taken ≤ length chunk) × (length g.text ≤ room) × (g.tape.records ≤ most_records))
    (λ room t chunk fine few. (zero-le, zero-le, few))
    (λ room t b bs m more roomy rest fine few. let f = step-few t.next t b refl fine few in
    let r = rest (step-fine t b fine) f.0 in
    (omega (arith, r.0), omega (arith, r.1, f.1, length-append (advanced t b).text m.text), r.2))

-- of a call, refused or not
pub record Within (chunk out : List ℕ) (d : ListedOut) : Type 0 where
  pub taken : d.taken ≤ length chunk
  pub written : d.written ≤ length out
  pub records : d.tape.records ≤ most_records

pub listed-within : (t : Tape) (chunk out : List ℕ) → t.records ≤ most_records → Within chunk out (listed t chunk out)
listed-within t chunk out few =
    listed-elim (Within chunk out) t chunk out (λ why. record { taken = zero-le; written = zero-le; records = few })
    (λ fine roomy. let g = going-within chunk (length out) t fine few in record { taken = g.0; written = g.1; records = g.2 })

-- ---- it takes something

-- after some bytes with their text
abbrev pub went_after : ℕ → List ℕ → Went → Went
went_after taken text w = record { tape = w.tape; taken = taken + w.taken; text = text ++ w.text }

-- one byte, where there is room and something further is read
pub going_step : (room : ℕ) (t : Tape) (b : ℕ) (bs : List ℕ) → is_over t.next ≡ false → least_room ≤ room
    → let s = advanced t b in
    going room t (b ∷ bs) ≡ went_after 1 s.text (going (room - length s.text) s.tape bs)
unfolding going
going_step room t b bs more h = rw (more, le-ltb room least_room h)

-- so a chunk that has a byte goes down
pub listed-some : (t : Tape) (b : ℕ) (bs out : List ℕ) → bad_tape t ≡ false → least_room ≤ length out → is_over t.next ≡ false
    → 0 < (listed t (b ∷ bs) out).taken
listed-some t b bs out fine roomy more =
    rw (
      ap (λ (d : ListedOut). d.taken) (lists-chunk t (b ∷ bs) out fine roomy),
      ap (λ (w : Went). w.taken)
          (going_step (length out) t b bs more roomy),
    ) (omega arith)

-- ---- no call of a session is refused where there is room

pub fresh-fine : bad_tape fresh_tape ≡ false
fresh-fine = refl

going_fine : (chunk : List ℕ) (room : ℕ) (t : Tape) → bad_tape t ≡ false → bad_tape (going room t chunk).tape ≡ false
going_fine =
    going-elim (λ (room : ℕ) (t : Tape) (chunk : List ℕ) (g : Went). bad_tape t ≡ false → bad_tape g.tape ≡ false)
    (λ room t chunk fine. fine) (λ room t b bs m more roomy rest fine. rest (step-fine t b fine))

-- a call leaves a tape that it does not refuse so
pub listed-fine : (t : Tape) (chunk out : List ℕ) → bad_tape t ≡ false → bad_tape (listed t chunk out).tape ≡ false
listed-fine t chunk out fine =
    listed-elim (λ (d : ListedOut). bad_tape d.tape ≡ false) t chunk out (λ why. fine) (λ good roomy. going_fine chunk (length out) t fine)
