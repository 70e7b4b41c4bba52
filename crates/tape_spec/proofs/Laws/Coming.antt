-- What follows a kind byte is what the paper says, in its numbers.
-- Assumes nothing.
use mathlib.Core.Path.{◌≡◌, refl, sym, ap}
use mathlib.Core.Bool.{Bool, true, false, cond, ◌||◌}
use Prim.Native.Nat.{ℕ}
use borrow.Author.Tests.{eqb-true}
use lib.Dec.{eqb}
use Rattle.tape_spec.specs.declared.tape.Line.TheVariants.{Point, Addressed}
use Rattle.tape_spec.specs.declared.tape.Next.TheVariants.{Full}
use Rattle.tape_spec.specs.Limits.{most_records}
use Rattle.tape_spec.specs.Whole.{kind_of, known, unknown, kind}
use Rattle.tape_spec.specs.Taping.{awaited, after_kind}
use Rattle.tape_spec.specs.Coming.{BODY, BAD, FULL, coming, is_kind, coming_after}

pub coming-after : (records k : ℕ) → coming (after_kind records k) ≡ coming_after records k
unfolding kind after_kind coming_after
coming-after records k = go (eqb records most_records)
  where
    by_kind : (point addressed : Bool) → eqb k (kind_of Point) ≡ point → eqb k (kind_of Addressed) ≡ addressed
        → coming (awaited (cond point (known Point) (cond addressed (known Addressed) unknown))) ≡ cond (point || addressed) (BODY k) BAD
    by_kind true addressed e f = ap BODY (sym (eqb-true k (kind_of Point) e))
    by_kind false true e f = ap BODY (sym (eqb-true k (kind_of Addressed) f))
    by_kind false false e f = refl

    body : coming (awaited (kind k)) ≡ cond (is_kind k) (BODY k) BAD
    body = by_kind (eqb k (kind_of Point)) (eqb k (kind_of Addressed)) refl refl

    go : (last : Bool) → coming (cond last Full (awaited (kind k))) ≡ cond last FULL (cond (is_kind k) (BODY k) BAD)
    go true = refl
    go false = body
