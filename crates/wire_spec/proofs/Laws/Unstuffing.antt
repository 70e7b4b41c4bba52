-- Stuffing can be undone, so no two contents have one stuffing, or one image.
-- Assumes nothing.
use mathlib.Core.Path.{◌≡◌, refl, sym, ap, ◌∙◌}
use mathlib.Core.Bool.{Bool, true, false}
use mathlib.Core.List.{List, [], ◌∷◌, ◌++◌, append_cancel_left, append_cancel_right}
use mathlib.Core.Option.{Option, some, map, none-ne-some, map-eq-some_iff}
use Prim.Native.Nat.{ℕ, ◌-◌, ◌≤◌}
use lib.Dec.{eqb, leb}
use borrow.Author.Tests.{eqb-true, leb-true}
use Rattle.ground.proofs.Laws.Choice.{cond-elim}
use Rattle.wire_spec.specs.Stuffing.{special, stuffed, stuffing, undo, unstuffing}
use Rattle.wire_spec.specs.Image.{start, stop, image}
use Rattle.wire_spec.proofs.Laws.Stuffing.{plain-ne, by-stuffed, stuffed-other, stuffed-partner}

-- a content with one byte more in front
abbrev before : ℕ → Option (List ℕ) → Option (List ℕ)
before b = map (λ (c : List ℕ). b ∷ c)

plain-next : (b : ℕ) → special b ≡ false → (s : List ℕ) → undo false (b ∷ s) ≡ before b (undo false s)
unfolding undo
plain-next b plain s =
    rw (plain, plain-ne b 0xFF plain refl)

-- undone, a stuffed byte is that byte
next : (b : ℕ) (s : List ℕ) → undo false (stuffed b ++ s) ≡ before b (undo false s)
unfolding undo
next =
    by-stuffed (λ (b : ℕ) (l : List ℕ). (s : List ℕ) → undo false (l ++ s) ≡ before b (undo false s))
    (λ s. refl) (λ s. refl) (λ s. refl) plain-next

-- unstuffing gives the content back
pub unstuffing-stuffing : (content : List ℕ) → unstuffing (stuffing content) ≡ some content
unfolding stuffing undo unstuffing
unstuffing-stuffing [] = refl
unstuffing-stuffing (b ∷ bs) = next b (stuffing bs) ∙ ap (before b) (unstuffing-stuffing bs)

pub stuffing-injective : (a b : List ℕ) → stuffing a ≡ stuffing b → a ≡ b
stuffing-injective a b e =
    let h : some a ≡ some b = sym (unstuffing-stuffing a) ∙ ap unstuffing e ∙ unstuffing-stuffing b in
    cc

-- two contents with the same image are the same content
pub image_injective : (a b : List ℕ) → image a ≡ image b → a ≡ b
unfolding image
image_injective a b e =
    stuffing-injective a b
    (append_cancel_right (stuffing a) (stuffing b) (stop ∷ []) (append_cancel_left (start ∷ []) _ _ e))

-- ---- and what can be undone is the stuffing of what comes of it

-- the wire with the FF that waits
abbrev waiting : Bool → List ℕ → List ℕ
waiting true wire = 0xFF ∷ wire
waiting false wire = wire

abbrev Undone : Bool → List ℕ → Type 0
Undone pending wire = (c : List ℕ) → undo pending wire ≡ some c → waiting pending wire ≡ stuffing c

-- a byte that stands for itself
plain-undone : (b : ℕ) (bs c : List ℕ) → special b ≡ false → Undone false bs → before b (undo false bs) ≡ some c → b ∷ bs ≡ stuffing c
unfolding stuffing
plain-undone b bs c plain ih e =
    let t = (map-eq-some_iff _ _).0 e in
    rw (← t.2, stuffed-other b plain, ← ih t.0 t.1)

-- a partner that is known
pair-undone : (p : ℕ) (bs c : List ℕ) → p ≤ 0x02 → Undone false bs → before (0xFF - p) (undo false bs) ≡ some c → 0xFF ∷ p ∷ bs ≡ stuffing c
unfolding stuffing
pair-undone p bs c known ih e =
    let t = (map-eq-some_iff _ _).0 e in
    rw (← t.2, stuffed-partner p known, ← ih t.0 t.1)

next-undone : (b : ℕ) (bs : List ℕ) → Undone true bs → Undone false bs → Undone false (b ∷ bs)
unfolding undo
next-undone b bs pair plain c =
    cond-elim P (eqb b 0xFF) (λ t e. rw (eqb-true b 0xFF t) (pair c e))
    (λ f. cond-elim P (special b) (λ t e. absurd (none-ne-some c e)) (λ t e. plain-undone b bs c t plain e))
  where
    P : Option (List ℕ) → Type 0
    P o = o ≡ some c → b ∷ bs ≡ stuffing c

partner-undone : (p : ℕ) (bs : List ℕ) → Undone false bs → Undone true (p ∷ bs)
unfolding undo
partner-undone p bs ih c =
    cond-elim P (leb p 0x02) (λ t e. pair-undone p bs c (leb-true p 0x02 t) ih e) (λ f e. absurd (none-ne-some c e))
  where
    P : Option (List ℕ) → Type 0
    P o = o ≡ some c → 0xFF ∷ p ∷ bs ≡ stuffing c

undone : (pending : Bool) (wire : List ℕ) → Undone pending wire
unfolding undo stuffing
undone false [] = λ c e. let n : [] ≡ c = cc in rw (← n)
undone true [] = λ c e. absurd (none-ne-some c e)
undone false (b ∷ bs) = next-undone b bs (undone true bs) (undone false bs)
undone true (p ∷ bs) = partner-undone p bs (undone false bs)

pub stuffing-unstuffing : (wire content : List ℕ) → unstuffing wire ≡ some content → wire ≡ stuffing content
unfolding unstuffing
stuffing-unstuffing = undone false
