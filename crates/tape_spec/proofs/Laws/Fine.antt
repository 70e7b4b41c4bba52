-- Tapes that no row of the refusal table names: every byte leads to such a tape again.
-- Assumes nothing.
use mathlib.Core.Path.{◌≡◌, refl}
use mathlib.Core.Bool.{Bool, true, false, cond, ◌&&◌}
use mathlib.Core.List.{[], ◌∷◌}
use Prim.Native.Nat.{ℕ, ◌+◌, ◌≤◌, ◌<◌}
use native.Mathlib.Omega.{arith}
use borrow.Author.Tests.{eqb-false}
use lib.Dec.{eqb}
use Rattle.ground.proofs.Laws.Choice.{or-none}
use Rattle.link_spec.specs.declared.receiver.Receiver.{Receiver}
use Rattle.link_spec.specs.Receiving.{bad_receiver, received}
use Rattle.link_spec.proofs.Laws.Receiving.{stays-good}
use Rattle.tape_spec.specs.declared.tape.Line.{Line}
use Rattle.tape_spec.specs.declared.tape.Line.TheVariants.{Point, Addressed}
use Rattle.tape_spec.specs.declared.tape.Next.{Next}
use Rattle.tape_spec.specs.declared.tape.Next.TheVariants.{Kind, Body, Bad, Full}
use Rattle.tape_spec.specs.declared.tape.Receivers.{Receivers}
use Rattle.tape_spec.specs.declared.tape.Tape.{Tape}
use Rattle.tape_spec.specs.Limits.{most_records}
use Rattle.tape_spec.specs.Whole.{kind, receiver_on, with_receiver}
use Rattle.tape_spec.specs.Whole as whole
use Rattle.tape_spec.specs.Taping.{tape_of, awaited, after_kind, advance, advanced, bad_receivers, awaits_body, bad_tape}

-- a kind byte leads to such a tape again
pub kind-fine : (n k : ℕ) → (awaits_body (after_kind n k) && eqb n most_records) ≡ false
unfolding after_kind
kind-fine n k = go (eqb n most_records)
  where
    known-none : (x : whole.Kind) → (awaits_body (awaited x) && false) ≡ false
    known-none (whole.known line) = refl
    known-none whole.unknown = refl

    go : (e : Bool) → (awaits_body (cond e Full (awaited (kind k))) && e) ≡ false
    go true = refl
    go false = known-none (kind k)

pub with-receiver-fine : (line : Line) (s : Receiver) (r : Receivers) → bad_receiver s ≡ false → bad_receivers r ≡ false
    → bad_receivers (with_receiver line s r) ≡ false
with-receiver-fine Point s r good fine = rw (good, (or-none (bad_receiver r.point) (bad_receiver r.addressed) fine).1)
with-receiver-fine Addressed s r good fine = rw (or-none (bad_receiver r.point) (bad_receiver r.addressed) fine).0 good

pub on_fine : (line : Line) (r : Receivers) → bad_receivers r ≡ false → bad_receiver (receiver_on line r) ≡ false
on_fine Point r fine = (or-none (bad_receiver r.point) (bad_receiver r.addressed) fine).0
on_fine Addressed r fine = (or-none (bad_receiver r.point) (bad_receiver r.addressed) fine).1

pub receivers-fine : (t : Tape) → bad_tape t ≡ false → bad_receivers t.receivers ≡ false
receivers-fine t fine = (or-none (bad_receivers t.receivers) (awaits_body t.next && eqb t.records most_records) fine).0

-- before a body the record is permitted
pub body-permitted : (n : ℕ) (line : Line) (r : Receivers) → bad_tape (tape_of n (Body line) r) ≡ false → n ≤ most_records → n < most_records
body-permitted n line r fine few = omega (arith, eqb-false n most_records (or-none (bad_receivers r) (eqb n most_records) fine).1)

pub tape-fine : (n : ℕ) (next : Next) (r : Receivers) → bad_receivers r ≡ false → (awaits_body next && eqb n most_records) ≡ false
    → bad_tape (tape_of n next r) ≡ false
tape-fine n next r fine few = rw fine few

-- and so does every byte
step-at-fine : (next : Next) (t : Tape) (b : ℕ) → bad_tape t ≡ false → bad_tape (advance next t b).tape ≡ false
unfolding advance
step-at-fine Kind t b fine =
    tape-fine t.records (after_kind t.records b) t.receivers (receivers-fine t fine) (kind-fine t.records b)
step-at-fine (Body line) t b fine =
    let r = t.receivers in
    let good = stays-good (receiver_on line r) (b ∷ []) (on_fine line r (receivers-fine t fine)) in
    tape-fine (t.records + 1) Kind (with_receiver line (received (receiver_on line r) (b ∷ [])).receiver r)
    (with-receiver-fine line _ r good (receivers-fine t fine)) refl
step-at-fine Bad t b fine = fine
step-at-fine Full t b fine = fine

pub step-fine : (t : Tape) (b : ℕ) → bad_tape t ≡ false → bad_tape (advanced t b).tape ≡ false
step-fine t b fine = step-at-fine t.next t b fine
