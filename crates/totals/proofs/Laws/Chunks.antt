-- What either line's receiver heard of a part of a tape, put together, are the totals after the part.
-- Assumes nothing.
use mathlib.Core.Path.{◌≡◌, ap, ap₂, ◌∙◌}
use mathlib.Core.Bool.{false, ◌&&◌}
use mathlib.Core.List.{List, []}
use Prim.Native.Nat.{ℕ, ◌≤◌}
use native.Mathlib.Omega.{arith}
use lib.Dec.{eqb}
use lib.ListN.{length}
use Rattle.tape_spec.specs.declared.tape.Line.TheVariants.{Point, Addressed}
use Rattle.tape_spec.specs.declared.tape.Next.{Next}
use Rattle.tape_spec.specs.Limits.{most_records}
use Rattle.tape_spec.specs.Taping.{awaits_body}
use Rattle.totals_spec.specs.declared.totals.Totals.{Totals}
use Rattle.totals_spec.specs.Adding.{Account, after_bytes, chunk_of, account_at, totals_of, totals_after}
use Rattle.totals_spec.proofs.Laws.Chunks.{chunk-few}
use Rattle.totals_spec.proofs.Laws.Counting.{bytes-few}
use Rattle.totals.specs.Splitting.{Pieces, split_on}

pub joined_is : (t : Totals) (part : List ℕ) (r : Pieces) {p a : Account} → r ≡ split_on t.tape.records t.tape.next part [] []
    → p ≡ after_bytes (account_at Point t) r.point
    → a ≡ after_bytes (account_at Addressed t) r.addressed
    → totals_of r.records r.next p a ≡ totals_after t part
unfolding totals_after
joined_is t part r split on-point on-addressed =
    ap₂ (totals_of r.records r.next) on-point on-addressed
    ∙ ap (λ (q : Pieces). totals_of q.records q.next (after_bytes (account_at Point t) q.point) (after_bytes (account_at Addressed t) q.addressed))
    split

-- no line has more bytes in it than a tape has records
pub pieces-few : (n : ℕ) (next : Next) (part : List ℕ) → n ≤ most_records → (awaits_body next && eqb n most_records) ≡ false
    → let r = split_on n next part [] [] in (length r.point ≤ most_records) × (length r.addressed ≤ most_records)
pieces-few n next part few permitted =
    let rs = (chunk_of n next part).records in
    let most = (chunk-few part n next few permitted).0 in
    (omega (arith, bytes-few Point rs), omega (arith, bytes-few Addressed rs))
