-- Laws of laying bytes into a buffer.
-- Assumes nothing.
use mathlib.Core.Path.{◌≡◌, refl, sym, ap, ap₂, ◌∙◌}
use mathlib.Core.List.{List, [], ◌∷◌, ◌++◌, append_assoc, append-nil}
use Prim.Native.Nat.{ℕ, ◌+◌, ◌-◌, ◌≤◌, ◌<◌, zero-le}
use native.Mathlib.Nat.{add-zero, zero-add, add_assoc}
use native.Mathlib.Numerals.{add-one}
use native.Mathlib.Omega.{arith}
use lib.ListN.{length, take, drop, set, length-append, length-take, length-drop, take-append-drop, drop_of_length-le}
use lib.Seq.{take_at, drop-drop, length-take-le, set_split, take_all, drop-append-add}
use borrow.Author.Tests.{lt-ltb, le-ltb, ltb-false}
use lib.Dec.{ltb}
use borrow.Rule.Slice.PartMut.{put_mid, mid_of, Post-is}
use Rattle.std.specs.Prelude.{Result, Ok, Err}
use Rattle.ground.specs.declared.refusal.Refusal.{Refusal}
use Rattle.ground.specs.declared.refusal.Refusal.TheVariants.{NoRoom}
use Rattle.ground.specs.Refusals.{number, Keeps}
use Rattle.ground.specs.Laying.{laid, onto, Ended, ended, unplaced, placed, put}
use Rattle.ground.proofs.Laws.Choice.{cond-elim}
use Rattle.ground.proofs.Laws.Refusals.{number-some}

-- nothing laid is nothing changed
pub laid_nil : (l : List ℕ) (at : ℕ) → laid l at [] ≡ l
unfolding laid
laid_nil l at = rw (add-zero at, take-append-drop)

pub laid_none : (l : List ℕ) (at : ℕ) (x : List ℕ) → length x ≡ 0 → laid l at x ≡ l
laid_none l at [] none = laid_nil l at
laid_none l at (b ∷ x) none = absurd (omega arith)

pub length-laid : (l : List ℕ) (at : ℕ) (x : List ℕ) → at + length x ≤ length l → length (laid l at x) ≡ length l
unfolding laid
length-laid l at x h =
    simp (length-append, length-take, length-drop) (omega arith)

-- up to its end, what was laid stands after what was there
take-laid : (l : List ℕ) (at : ℕ) (x : List ℕ) → at ≤ length l → take (at + length x) (laid l at x) ≡ take at l ++ x
unfolding laid
take-laid l at x h =
    rw (← append_assoc (take at l) x (drop (at + length x) l))
    (take_at (take at l ++ x) (drop (at + length x) l) (at + length x) (rw (length-append, length-take-le at l h)))

drop-laid : (l : List ℕ) (at : ℕ) (x : List ℕ) (k : ℕ) → at ≤ length l
    → drop (at + length x + k) (laid l at x) ≡ drop (at + length x + k) l
unfolding laid
drop-laid l at x k h =
    let e : length (take at l ++ x) ≡ at + length x = rw (length-append, length-take-le at l h) in
    rw (← append_assoc (take at l) x (drop (at + length x) l), ← drop-drop k (at + length x) l, ← e)
    (drop-append-add (take at l ++ x) (drop (length (take at l ++ x)) l) k)

-- two in a row are one
pub laid_more : (l : List ℕ) (at : ℕ) (x y : List ℕ) → at ≤ length l
    → laid (laid l at x) (at + length x) y ≡ laid l at (x ++ y)
unfolding laid
laid_more l at x y h =
    ap₂ (λ (a b : List ℕ). a ++ (y ++ b)) (take-laid l at x h) (drop-laid l at x (length y) h)
    ∙ simp (append_assoc, length-append, add_assoc)

-- what is laid at the front stands before what was after it
pub laid-front : (l x : List ℕ) → laid l 0 x ≡ onto x l
unfolding laid
laid-front l x = rw zero-add

-- over a buffer that is no longer, it is all there is
pub laid-whole : (l x : List ℕ) → length l ≤ length x → laid l 0 x ≡ x
laid-whole l x whole = laid-front l x ∙ rw (drop_of_length-le l whole) (append-nil x)

-- at the front of a buffer: what was laid, and what is laid after it
pub take-front : (l x : List ℕ) → take (length x) (laid l 0 x) ≡ x
take-front l x = rw (zero-add (length x)) at (take-laid l 0 x zero-le)

pub laid-after : (l x y : List ℕ) → laid (laid l 0 x) (length x) y ≡ laid l 0 (x ++ y)
laid-after l x y = rw (zero-add (length x)) at (laid_more l 0 x y zero-le)

-- a byte put into its place is laid there
pub set-laid : (l : List ℕ) (at b : ℕ) → at < length l → set l at b ≡ laid l at (b ∷ [])
unfolding laid
set-laid l at b h = set_split l at b h ∙ rw (← add-one at)

-- a byte, and then the bytes after it
pub laid_next : (l : List ℕ) (at b : ℕ) (x : List ℕ) → at < length l → laid (set l at b) (at + 1) x ≡ laid l at (b ∷ x)
laid_next l at b x h = rw (set-laid l at b h) (laid_more l at (b ∷ []) x (omega arith))

-- a byte put after what was laid
pub set_after : (l : List ℕ) (at : ℕ) (x : List ℕ) (b : ℕ) → at + length x < length l
    → set (laid l at x) (at + length x) b ≡ laid l at (x ++ (b ∷ []))
set_after l at x b h =
    set-laid (laid l at x) (at + length x) b (rw (length-laid l at x (omega arith)) h) ∙ laid_more l at x (b ∷ []) (omega arith)

pub set-two : (l : List ℕ) (at a b : ℕ) → at + 2 ≤ length l → set (set l at a) (at + 1) b ≡ laid l at (a ∷ b ∷ [])
set-two l at a b h = rw (set-laid l at a (omega arith)) (set_after l at (a ∷ []) b (omega arith))

-- what was laid into a part that was lent, from the place `at` to the end, stands there in the whole
pub laid-part : (l : List ℕ) (at : ℕ) (x : List ℕ) → at + length x ≤ length l
    → put_mid at (length l - at) l (laid (mid_of at (length l - at) l) 0 x) ≡ laid l at x
unfolding laid
laid-part l at x h =
    let e : length (drop at l) ≤ length l - at = simp length-drop (omega arith) in
    rw (take_all (length l - at) (drop at l) e, drop_of_length-le (drop at l) e, zero-add, drop-drop)
    (simp (append_assoc, append-nil))

-- a part of a buffer that is written over with bytes of its length has them laid there
pub laid-piece : (l : List ℕ) (at : ℕ) (x : List ℕ) → at + length x ≤ length l → put_mid at (at + length x - at) l x ≡ laid l at x
unfolding laid
laid-piece l at x h = ap (λ (rest : List ℕ). take at l ++ (x ++ rest)) (Post-is at (at + length x) l (omega arith))

-- ---- bytes put where there is room, and where there is none

pub put_refused : (bytes out : List ℕ) (at : ℕ) → length out - at < length bytes → put bytes out at ≡ unplaced NoRoom out at
unfolding put
put_refused bytes out at h = simp (lt-ltb (length out - at) (length bytes) h)

pub put-placed : (bytes out : List ℕ) (at : ℕ) → length bytes ≤ length out - at → put bytes out at ≡ placed bytes out at
unfolding put
put-placed bytes out at h = simp (le-ltb (length out - at) (length bytes) h)

-- a result that ends after the bytes, and the buffer with them in it, is what is placed
pub placed-is : (bytes out : List ℕ) (at : ℕ) {end : ℕ} {o : List ℕ} → end ≡ at + length bytes → o ≡ laid out at bytes
    → record { refusal = 0; end = end; out = o } ≡ placed bytes out at
placed-is bytes out at = ap₂ (λ (k : ℕ) (l : List ℕ). record { refusal = 0; end = k; out = l })

-- so a call's bytes lie in the buffer that it left, where there was room for them
pub put-laid : (bytes out : List ℕ) (at : ℕ) {e : Ended} → e ≡ put bytes out at → length bytes ≤ length out - at
    → e.out ≡ laid out at bytes
put-laid bytes out at says fits = ap (λ (d : Ended). d.out) (says ∙ put-placed bytes out at fits)

-- bytes that are refused change nothing
pub put_keeps : (bytes out : List ℕ) (at : ℕ) → Keeps (put bytes out at).refusal out (put bytes out at).out
unfolding put
put_keeps bytes out at =
    cond-elim (λ (e : Ended). Keeps e.refusal out e.out) (ltb (length out - at) (length bytes)) (λ short refused. refl)
    (λ roomy refused. absurd (refused refl))

-- what was put ends within the buffer, if it began there
pub put-within : (bytes out : List ℕ) (at : ℕ) → at ≤ length out → (put bytes out at).end ≤ length out
unfolding put
put-within bytes out at begins =
    cond-elim (λ (e : Ended). e.end ≤ length out) (ltb (length out - at) (length bytes)) (λ short. begins)
    (λ roomy. omega (arith, ltb-false (length out - at) (length bytes) roomy))

-- so a call that puts bytes ends within the buffer, refused or not
pub put-ends : {e : Ended} (bytes out : List ℕ) (at : ℕ) → e ≡ put bytes out at → at ≤ length out → e.end ≤ length out
put-ends bytes out at says begins = rw (ap (λ (e : Ended). e.end) says) (put-within bytes out at begins)

-- ---- where there is room: nothing put, two texts put in a row, and a text put to the front

pub placed-nil : (out : List ℕ) (at : ℕ) → placed [] out at ≡ record { refusal = 0; end = at; out = out }
placed-nil out at = sym (placed-is [] out at (sym (add-zero at)) (sym (laid_nil out at)))

pub placed-more : (x y out : List ℕ) (at : ℕ) → at ≤ length out → placed y (laid out at x) (at + length x) ≡ placed (x ++ y) out at
placed-more x y out at begins = placed-is (x ++ y) out at (omega (arith, length-append x y)) (laid_more out at x y begins)

pub take-placed : (bytes out : List ℕ) → take (placed bytes out 0).end (placed bytes out 0).out ≡ bytes
take-placed bytes out = rw (zero-add (length bytes)) (take-front out bytes)

-- bytes put to the front of a buffer: where there is room for them, what stands after them stays
pub put-onto : {e : Ended} (bytes buffer : List ℕ) → e ≡ put bytes buffer 0 → length bytes ≤ length buffer → e.out ≡ onto bytes buffer
put-onto bytes buffer says fits = put-laid bytes buffer 0 says (omega arith) ∙ laid-front buffer bytes

-- in a buffer of their length they are all there is
pub put_whole : {e : Ended} (bytes buffer : List ℕ) → e ≡ put bytes buffer 0 → length bytes ≡ length buffer → e.out ≡ bytes
put_whole bytes buffer says same = put-laid bytes buffer 0 says (omega arith) ∙ laid-whole buffer bytes (omega arith)

-- ---- one part of a text after the other

-- Calls that put one part of a text after the other, from a place of a buffer on, and what the last of them answers and leaves.
pub data Puts : List ℕ → ℕ → List ℕ → Ended → Type 0 where
  last : {out : List ℕ} {at : ℕ} {x : List ℕ} {e : Ended} → e ≡ put x out at → Puts out at x e
  then : {out : List ℕ} {at : ℕ} {y : List ℕ} {e : Ended} (x : List ℕ) (s : Ended)
      → s ≡ put x out at → Puts s.out s.end y e → Puts out at (x ++ y) e

-- where there is room for the whole text, they put the whole text
pub puts-placed : {out : List ℕ} {at : ℕ} {text : List ℕ} {e : Ended} → Puts out at text e → at ≤ length out → length text ≤ length out - at
    → e ≡ placed text out at
puts-placed {out} {at} {text} (last says) begins fits = says ∙ put-placed text out at fits
puts-placed {out} {at} (then {y} x s says more) begins fits =
    let n : length (x ++ y) ≡ length x + length y = length-append x y in
    let first = says ∙ put-placed x out at (omega arith) in
    let end : s.end ≡ at + length x = ap (λ (d : Ended). d.end) first in
    let lies : s.out ≡ laid out at x = ap (λ (d : Ended). d.out) first in
    let same : length s.out ≡ length out = ap length lies ∙ length-laid out at x (omega arith) in
    puts-placed more (omega arith) (omega arith)
    ∙ ap₂ (placed y) lies end
    ∙ placed-more x y out at begins

-- and then none of them is refused
pub puts-some : {out : List ℕ} {at : ℕ} {text : List ℕ} (why : Refusal) {end : ℕ} {o : List ℕ}
    → Puts out at text (record { refusal = number why; end = end; out = o }) → at ≤ length out → length text ≤ length out - at → ⊥
puts-some why puts begins fits = number-some why (ap (λ (e : Ended). e.refusal) (puts-placed puts begins fits))

-- so the last of them, which began elsewhere, ends as one call that puts the whole text
pub puts-whole : {out : List ℕ} {at : ℕ} {text : List ℕ} (from : ℕ) (r : Result ℕ Refusal) (o : List ℕ) → Puts out at text (ended from r o)
    → at ≤ length out → length text ≤ length out - at
    → ended at r o ≡ put text out at
puts-whole {out} {at} {text} from (Ok end) o puts begins fits = puts-placed puts begins fits ∙ sym (put-placed text out at fits)
puts-whole from (Err why) o puts begins fits = absurd (puts-some why puts begins fits)
