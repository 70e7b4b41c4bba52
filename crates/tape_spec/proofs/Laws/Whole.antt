-- The records of a tape: those that were taped, up to the number that a tape may hold.
-- Assumes nothing.
use mathlib.Core.Path.{◌≡◌, refl, sym, ap, ◌∙◌}
use mathlib.Core.Bool.{Bool, true, false, cond}
use mathlib.Core.List.{List, [], ◌∷◌, ◌++◌}
use Prim.Native.Nat.{ℕ, suc, ◌+◌, ◌≤◌}
use native.Mathlib.Nat.{add-zero}
use native.Mathlib.Omega.{arith}
use borrow.Author.Tests.{ne_eqb, eqb-false}
use lib.Dec.{eqb}
use lib.ListN.{length}
use Rattle.tape_spec.specs.declared.tape.Line.{Line}
use Rattle.tape_spec.specs.declared.tape.Line.TheVariants.{Point, Addressed}
use Rattle.tape_spec.specs.declared.tape.Ending.TheVariants.{Full as FULL}
use Rattle.tape_spec.specs.Limits.{most_records}
use Rattle.tape_spec.specs.Whole.{Record, heard_on, kind_of, Kind, known, unknown, kind, Parts, no_more, before, parts, taped}

pub kind-known : (line : Line) → kind (kind_of line) ≡ known line
unfolding kind
kind-known Point = refl
kind-known Addressed = refl

-- these records before others
abbrev pub joined : List Record → Parts → Parts
joined rs p = record { records = rs ++ p.records; ending = p.ending }

-- permitted records that were taped are read back, and what follows them is read after them
pub parts-taped : (rs : List Record) (n : ℕ) (rest : List ℕ) → n + length rs ≤ most_records
    → parts n (taped rs ++ rest) ≡ joined rs (parts (n + length rs) rest)
unfolding parts taped
parts-taped [] n rest few = ap (λ (k : ℕ). parts k rest) (sym (add-zero n))
parts-taped (heard_on line b ∷ rs) n rest few =
    let far : n + 1 + length rs ≡ n + suc (length rs) = omega arith in
    rw (ne_eqb n most_records (λ e. absurd (omega arith)), kind-known line)
    (ap (λ (p : Parts). before (known line) b p) (parts-taped rs (n + 1) rest (omega arith) ∙ ap (λ (k : ℕ). joined rs (parts k rest)) far))

-- so no number in a listing wraps: a tape has no more whole records than it may hold
before-few : (n b : ℕ) (x : Kind) (p : Parts) → n + 1 + length p.records ≤ most_records → n + length (before x b p).records ≤ most_records
before-few n b (known line) p few = omega arith
before-few n b unknown p few = omega arith

pub parts-few : (tape : List ℕ) (n : ℕ) → n ≤ most_records → n + length (parts n tape).records ≤ most_records
unfolding parts
parts-few [] n few = omega arith
parts-few (k ∷ []) n few = omega arith
parts-few (k ∷ b ∷ bs) n few = go (eqb n most_records) refl (parts-few bs (n + 1))
  where
    go : (e : Bool) → eqb n most_records ≡ e → (n + 1 ≤ most_records → n + 1 + length (parts (n + 1) bs).records ≤ most_records)
        → n + length (cond e (no_more FULL) (before (kind k) b (parts (n + 1) bs))).records ≤ most_records
    go true e rest = omega arith
    go false e rest = before-few n b (kind k) (parts (n + 1) bs) (rest (omega (arith, eqb-false n most_records e)))
