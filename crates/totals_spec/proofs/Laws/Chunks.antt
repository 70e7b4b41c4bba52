-- The records of a chunk: cuts do not matter, those of a whole tape are its parts', and there are no more than a tape may hold.
-- Assumes nothing.
use mathlib.Core.Path.{◌≡◌, refl, sym, ap, ◌∙◌}
use mathlib.Core.Bool.{Bool, true, false, cond, ◌&&◌, false≢true}
use mathlib.Core.List.{List, [], ◌∷◌, ◌++◌}
use Prim.Native.Nat.{ℕ, suc, ◌+◌, ◌≤◌}
use native.Mathlib.Nat.{add-zero}
use native.Mathlib.Omega.{arith}
use borrow.Author.Tests.{eqb-false}
use lib.Dec.{eqb}
use lib.ListN.{length}
use Rattle.tape_spec.specs.declared.tape.Ending.TheVariants.{Full as FULL}
use Rattle.tape_spec.specs.declared.tape.Next.{Next}
use Rattle.tape_spec.specs.declared.tape.Next.TheVariants.{Kind, Body, Bad, Full}
use Rattle.tape_spec.specs.Limits.{most_records}
use Rattle.tape_spec.specs.Whole.{heard_on, known, unknown, kind, Parts, no_more, before, parts}
use Rattle.tape_spec.specs.Whole as whole
use Rattle.tape_spec.specs.Taping.{awaited, after_kind, is_over, awaits_body, ending}
use Rattle.tape_spec.proofs.Laws.Fine.{kind-fine}
use Rattle.tape_spec.proofs.Laws.Remaining.{kind-bodyless}
use Rattle.totals_spec.specs.Adding.{Chunk, with_record, chunk_of}

-- no record, and this byte next
abbrev pub no_record : Next → Chunk
no_record next = record { records = []; next = next }

-- nothing further is read
pub chunk-over : (l : List ℕ) (n : ℕ) (next : Next) → is_over next ≡ true → chunk_of n next l ≡ no_record next
unfolding chunk_of
chunk-over [] n next over = refl
chunk-over (b ∷ bs) n Kind over = absurd (false≢true over)
chunk-over (b ∷ bs) n (Body line) over = absurd (false≢true over)
chunk-over (b ∷ bs) n Bad over = refl
chunk-over (b ∷ bs) n Full over = refl

-- ---- cuts

-- a chunk and then another
abbrev pub joined : Chunk → Chunk → Chunk
joined c d = record { records = c.records ++ d.records; next = d.next }

pub chunk-append : (a b : List ℕ) (n : ℕ) (next : Next)
    → let c = chunk_of n next a in
    chunk_of n next (a ++ b) ≡ joined c (chunk_of (n + length c.records) c.next b)
unfolding chunk_of
chunk-append [] b n next = ap (λ (k : ℕ). chunk_of k next b) (sym (add-zero n))
chunk-append (k ∷ a) b n Kind = chunk-append a b n (after_kind n k)
chunk-append (x ∷ a) b n (Body line) =
    let c = chunk_of (n + 1) Kind a in
    let far : n + 1 + length c.records ≡ n + suc (length c.records) = omega arith in
    ap (with_record (heard_on line x)) (chunk-append a b (n + 1) Kind ∙ ap (λ (k : ℕ). joined c (chunk_of k c.next b)) far)
chunk-append (x ∷ a) b n Bad = sym (chunk-over b (n + 0) Bad refl)
chunk-append (x ∷ a) b n Full = sym (chunk-over b (n + 0) Full refl)

-- ---- a whole tape

-- the parts of a tape that ends here
abbrev pub parts_of : Chunk → Parts
parts_of c = record { records = c.records; ending = ending c.next }

pub chunk-parts : (tape : List ℕ) (n : ℕ) → parts_of (chunk_of n Kind tape) ≡ parts n tape
unfolding chunk_of parts after_kind
chunk-parts [] n = refl
chunk-parts (k ∷ []) n = ap no_more (kind-bodyless n k)
chunk-parts (k ∷ b ∷ bs) n = go (eqb n most_records) (kind k) (chunk-parts bs (n + 1))
  where
    go : (e : Bool) (x : whole.Kind) → parts_of (chunk_of (n + 1) Kind bs) ≡ parts (n + 1) bs
        → parts_of (chunk_of n (cond e Full (awaited x)) (b ∷ bs)) ≡ cond e (no_more FULL) (before x b (parts (n + 1) bs))
    go true x rest = refl
    go false (known line) rest = ap (before (known line) b) rest
    go false unknown rest = refl

-- ---- how many

-- where before a body the record is permitted
pub chunk-few : (l : List ℕ) (n : ℕ) (next : Next) → n ≤ most_records → (awaits_body next && eqb n most_records) ≡ false
    → let c = chunk_of n next l in
    (n + length c.records ≤ most_records) × ((awaits_body c.next && eqb (n + length c.records) most_records) ≡ false)
unfolding chunk_of
chunk-few [] n next few fine = (omega arith, ap (λ (k : ℕ). awaits_body next && eqb k most_records) (add-zero n) ∙ fine)
chunk-few (k ∷ bs) n Kind few fine = chunk-few bs n (after_kind n k) few (kind-fine n k)
chunk-few (b ∷ bs) n (Body line) few fine =
    let c = chunk_of (n + 1) Kind bs in
    let far : n + suc (length c.records) ≡ n + 1 + length c.records = omega arith in
    let rest = chunk-few bs (n + 1) Kind (omega (arith, eqb-false n most_records fine)) refl in
    (omega (arith, rest.0), ap (λ (k : ℕ). awaits_body c.next && eqb k most_records) far ∙ rest.1)
chunk-few (b ∷ bs) n Bad few fine = (omega arith, refl)
chunk-few (b ∷ bs) n Full few fine = (omega arith, refl)
