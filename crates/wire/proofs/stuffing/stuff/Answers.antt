-- `stuffing::stuff`: at each turn, to lay the stuffing of what is left at the place reached gives what was asked for.
-- Assumes nothing.
use mathlib.Core.Path.{◌≡◌, ap, ap₂, ◌∙◌}
use mathlib.Core.List.{List, ◌++◌}
use Prim.Native.Nat.{ℕ, ◌+◌, ◌<◌}
use native.Mathlib.Omega.{arith}
use lib.ListN.{length, drop, get_or, length-append, drop_of_length-le}
use Rattle.ground.specs.Laying.{laid}
use Rattle.ground.proofs.Laws.Lists.{drop-next}
use Rattle.ground.proofs.Laws.Laying.{laid_nil, laid_more}
use Rattle.wire_spec.specs.Stuffing.{stuffed, stuffing}
use Rattle.wire.proofs.stuffing.stuff.Goals as goal

-- the stuffing of what is left begins with the next byte, stuffed
next : (s : List ℕ) (i : ℕ) → i < length s → stuffing (drop i s) ≡ stuffed (get_or s i 0) ++ stuffing (drop (i + 1) s)
unfolding stuffing
next s i h = ap stuffing (drop-next s i h)

next-length : (s : List ℕ) (i : ℕ) → i < length s
    → length (stuffing (drop i s)) ≡ length (stuffed (get_or s i 0)) + length (stuffing (drop (i + 1) s))
next-length s i h = ap length (next s i h) ∙ simp length-append

pub stuff_byte-at-requires : goal.stuff_byte-at-requires
stuff_byte-at-requires c =
    omega (arith, next-length c.args.content.now c.loop-byte.byte-index c.loop-byte-test.true)

pub loop-byte-preserved : goal.loop-byte-preserved
loop-byte-preserved c =
    let s = c.args.content.now in
    let h = c.loop-byte-test.true in
    let e = c.stuff_byte-at.ensures in (
      omega arith,
      omega (arith, next-length s c.loop-byte.byte-index h),
      ap₂ (λ (l : List ℕ) (k : ℕ). laid l k (stuffing (drop (c.loop-byte.byte-index + 1) s))) e.1 e.0
          ∙ laid_more c.loop-byte.room c.loop-byte.at (stuffed (get_or s c.loop-byte.byte-index 0)) (stuffing (drop (c.loop-byte.byte-index + 1) s)) (omega arith)
          ∙ rw (next s c.loop-byte.byte-index h) at c.loop-byte.invariant.2,
    )

pub returns : goal.returns
unfolding stuffing
returns c =
    let h = c.loop-byte-test.false in (
      omega (arith, ap (λ (s : List ℕ). length (stuffing s)) (drop_of_length-le c.args.content.now h)),
      rw (drop_of_length-le, laid_nil) at c.loop-byte.invariant.2,
    )
