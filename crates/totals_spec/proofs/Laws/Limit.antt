-- A tape is refused exactly where a byte follows the last permitted record.
-- Assumes nothing.
use mathlib.Core.Path.{◌≡◌, refl, ap₂}
use mathlib.Core.Bool.{Bool, true, cond, false≢true}
use mathlib.Core.List.{List, [], ◌∷◌, ◌++◌}
use mathlib.Core.Logic.{◌↔◌}
use Prim.Native.Nat.{ℕ, ◌+◌}
use native.Mathlib.Omega.{arith}
use borrow.Author.Tests.{eq-eqb, eqb-true}
use lib.Dec.{eqb}
use lib.ListN.{length}
use Rattle.ground.proofs.Laws.Choice.{cond-elim, by-test}
use Rattle.tape_spec.specs.declared.tape.Line.{Line}
use Rattle.tape_spec.specs.declared.tape.Line.TheVariants.{Point, Addressed}
use Rattle.tape_spec.specs.declared.tape.Ending.TheVariants.{Full as FULL}
use Rattle.tape_spec.specs.Limits.{most_records}
use Rattle.tape_spec.specs.Whole.{Record, heard_on, kind_of, Kind, known, unknown, kind, no_more, bodyless, before, parts, taped}
use Rattle.tape_spec.proofs.Laws.Whole.{parts-taped}
use Rattle.totals_spec.specs.Whole.{is_full}
use Rattle.totals_spec.specs.Sessions.{RunsOver}

-- after n records there stand as many as are permitted, and a byte
record Over (n : ℕ) (bytes : List ℕ) : Type 0 where
  records : List Record
  byte : ℕ
  after : List ℕ
  most : n + length records ≡ most_records
  split : bytes ≡ taped records ++ (byte ∷ after)

not_full : (x : Kind) → is_full (bodyless x) ≡ true → ⊥
not_full (known line) e = false≢true e
not_full unknown e = false≢true e

-- a byte that is too much
at_once : (n : ℕ) (b : ℕ) (bs : List ℕ) → eqb n most_records ≡ true → Over n (b ∷ bs)
unfolding taped
at_once n b bs e = record { records = []; byte = b; after = bs; most = omega (arith, eqb-true n most_records e); split = refl }

-- a kind is that of a line, or unknown
by_kind : (P : Kind → Type 0) (k : ℕ) → ((line : Line) → k ≡ kind_of line → P (known line)) → P unknown → P (kind k)
unfolding kind
by_kind P k is other =
    cond-elim P (eqb k (kind_of Point)) (λ t. is Point (eqb-true k (kind_of Point) t))
    (λ f. cond-elim P (eqb k (kind_of Addressed)) (λ t. is Addressed (eqb-true k (kind_of Addressed) t)) (λ g. other))

-- one record more before it
over-more : (n k b : ℕ) (bs : List ℕ) (line : Line) → k ≡ kind_of line → Over (n + 1) bs → Over n (k ∷ b ∷ bs)
unfolding taped
over-more n k b bs line is o =
    record {
      records = heard_on line b ∷ o.records;
      byte = o.byte;
      after = o.after;
      most = omega (arith, o.most);
      split = ap₂ (λ (x : ℕ) (l : List ℕ). x ∷ b ∷ l) is o.split;
    }

full-over : (tape : List ℕ) (n : ℕ) → is_full (parts n tape).ending ≡ true → Over n tape
unfolding parts
full-over [] n full = absurd (false≢true full)
full-over (k ∷ []) n full =
    by-test (λ (e : Bool). eqb n most_records ≡ e → is_full (cond e FULL (bodyless (kind k))) ≡ true → Over n (k ∷ [])) (eqb n most_records)
    (λ t e f. at_once n k [] e) (λ t e f. absurd (not_full (kind k) f)) refl full
full-over (k ∷ b ∷ bs) n full =
    let on : (line : Line) → k ≡ kind_of line → is_full (before (known line) b (parts (n + 1) bs)).ending ≡ true → Over n (k ∷ b ∷ bs) =
    λ line is f. over-more n k b bs line is (full-over bs (n + 1) f) in
    by-test (λ (e : Bool). eqb n most_records ≡ e → is_full (cond e (no_more FULL) (before (kind k) b (parts (n + 1) bs))).ending ≡ true
    → Over n (k ∷ b ∷ bs)) (eqb n most_records) (λ t e f. at_once n k (b ∷ bs) e)
    (λ t e f. by_kind (λ (x : Kind). is_full (before x b (parts (n + 1) bs)).ending ≡ true → Over n (k ∷ b ∷ bs)) k on
    (λ g. absurd (false≢true g)) f) refl full

-- after the last permitted record any byte is too much
over-full : (n b : ℕ) (bs : List ℕ) → n ≡ most_records → (parts n (b ∷ bs)).ending ≡ FULL
unfolding parts
over-full n b [] e = rw (eq-eqb n most_records e)
over-full n b (c ∷ bs) e = rw (eq-eqb n most_records e)

pub full_is : (tape : List ℕ) → (is_full (parts 0 tape).ending ≡ true) ↔ RunsOver tape
full_is tape = (
  λ full. let o = full-over tape 0 full in
      record { records = o.records; byte = o.byte; after = o.after; most = omega (arith, o.most); split = o.split },
  λ o. let n = 0 + length o.records in
      rw (
        o.split,
        parts-taped o.records 0 (o.byte ∷ o.after) (omega (arith, o.most)),
        over-full n o.byte o.after (omega (arith, o.most)),
      ) refl,
)
