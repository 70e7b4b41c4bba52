-- The ring: where an entry stands, and that a body that is laid into its place stands there and changes no other.
-- Assumes nothing.
use mathlib.Core.Path.{◌≡◌, refl, sym, ap, ◌∙◌}
use mathlib.Core.Bool.{Bool}
use mathlib.Core.List.{List, ◌++◌, append_assoc}
use Prim.Native.Nat.{ℕ, ◌+◌, ◌-◌, ◌%◌, ◌≤◌, ◌<◌}
use native.Mathlib.Omega.{arith}
use lib.Dec.{ltb}
use lib.ListN.{length, get_or, take, drop, length-append, length-take, length-drop, get_or-append}
use lib.Seq.{take_at, drop_at, length-take-le, get_or-take, get_or-drop, get_or-append-add, ext_get_or}
use borrow.Author.Tests.{ltb-true, ltb-false}
use Rattle.ground.specs.Laying.{laid}
use Rattle.ground.proofs.Laws.Choice.{by-test}
use Rattle.ground.proofs.Laws.Laying.{length-laid}
use Rattle.event_log_spec.specs.Limits.{most_held, body_length, ring_length}
use Rattle.event_log_spec.specs.Log.{body_start, body_at}

-- ---- places

-- one after another, from a start that has moved on
pub place-moved : (start moved k : ℕ) → ((start + moved) % most_held + k) % most_held ≡ (start + (k + moved)) % most_held
place-moved start moved k = omega arith

pub place_same : (start : ℕ) → start < most_held → start ≡ (start + 0) % most_held
place_same start fits = omega arith

-- two of which one is less than 128 before the other are not the same
pub places-differ : (start j k : ℕ) → j < k → k < j + most_held → (start + j) % most_held ≡ (start + k) % most_held → ⊥
places-differ start j k before near same = omega arith

pub place-within : (n : ℕ) → n % most_held < most_held
place-within n = omega arith

-- ---- bodies

-- a body that is laid into a place is there
pub body-laid : (ring body : List ℕ) (place : ℕ) → place < most_held → length ring ≡ ring_length → length body ≡ body_length
    → body_at (laid ring (body_start place) body) place ≡ body
unfolding body_at laid
body-laid ring body place fits long whole =
    let at = body_start place in
    ap (take body_length) (drop_at (take at ring) (body ++ drop (at + length body) ring) at (length-take-le at ring (omega arith)))
    ∙ take_at body (drop (at + length body) ring) body_length whole

-- what is laid changes no byte before it, and none after it
before-laid : (l x : List ℕ) (at i : ℕ) → at ≤ length l → i < at → get_or (laid l at x) i 0 ≡ get_or l i 0
unfolding laid
before-laid l x at i fits early =
    get_or-append (take at l) (x ++ drop (at + length x) l) 0 i (rw (length-take-le at l fits) early) ∙ get_or-take at l i 0 early

after-laid : (l x : List ℕ) (at i : ℕ) → at ≤ length l → get_or (laid l at x) (at + length x + i) 0 ≡ get_or l (at + length x + i) 0
unfolding laid
after-laid l x at i fits =
    let front : length (take at l ++ x) ≡ at + length x = length-append (take at l) x ∙ ap (λ (n : ℕ). n + length x) (length-take-le at l fits) in
    ap (λ (m : List ℕ). get_or m (at + length x + i) 0) (sym (append_assoc (take at l) x (drop (at + length x) l)))
    ∙ ap (λ (n : ℕ). get_or ((take at l ++ x) ++ drop (at + length x) l) (n + i) 0) (sym front)
    ∙ get_or-append-add (take at l ++ x) (drop (at + length x) l) i 0
    ∙ get_or-drop (at + length x) l i 0

-- so the body at another place is the same
same_body : (l m : List ℕ) (place : ℕ) → length l ≡ length m → ((i : ℕ) → i < body_length → get_or l (body_start place + i) 0 ≡ get_or m (body_start place + i) 0)
    → body_at l place ≡ body_at m place
unfolding body_at
same_body l m place long each =
    let at = body_start place in
    ext_get_or 0 (take body_length (drop at l)) (take body_length (drop at m)) (simp (length-take, length-drop, long))
    (λ i less. let early : i < body_length = omega (arith, less, length-take body_length (drop at l)) in
    get_or-take body_length (drop at l) i 0 early
    ∙ get_or-drop at l i 0
    ∙ each i early
    ∙ sym (get_or-drop at m i 0)
    ∙ sym (get_or-take body_length (drop at m) i 0 early))

pub body-other : (ring body : List ℕ) (place other : ℕ) → place < most_held → length ring ≡ ring_length → length body ≡ body_length → (other ≡ place → ⊥)
    → body_at (laid ring (body_start place) body) other ≡ body_at ring other
body-other ring body place other fits long whole apart =
    let at = body_start place in
    let there = body_start other in
    let starts : at ≤ length ring = omega arith in
    same_body (laid ring at body) ring other (length-laid ring at body (omega arith))
    (by-test (λ (t : Bool). ltb other place ≡ t → (i : ℕ) → i < body_length → get_or (laid ring at body) (there + i) 0 ≡ get_or ring (there + i) 0)
    (ltb other place)
    (λ _ t i less. let earlier = ltb-true other place t in before-laid ring body at (there + i) starts (omega arith))
    (λ _ f i less. let later : place < other = after (ltb-false other place f) in
    let same : at + length body + (there + i - (at + length body)) ≡ there + i = omega arith in
    rw same at (after-laid ring body at (there + i - (at + length body)) starts)) refl)
  where
    after : place ≤ other → place < other
    after most = omega (arith, most, apart)
