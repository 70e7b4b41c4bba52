-- Laws of stuffing: what it makes of each byte, how long it is, and what never stands in it.
-- Assumes nothing.
use mathlib.Core.Path.{◌≡◌, refl, sym, ap, ◌∙◌, subst}
use mathlib.Core.Bool.{Bool, true, false, cond, true≢false}
use mathlib.Core.List.Memᴰ
use mathlib.Core.List.{List, [], ◌∷◌, ◌++◌, append_assoc, Memᴰ}
use mathlib.Core.Logic.{⊎_elim}
use Prim.Native.Nat.{ℕ, ◌+◌, ◌-◌, ◌≤◌, ◌<◌, zero-le}
use native.Mathlib.Nat.{zero-add}
use native.Mathlib.Decide.{dec_le}
use native.Mathlib.Omega.{arith}
use lib.Dec.{eqb, ltb, lit≤}
use lib.ListN.{length, length-append}
use borrow.Author.Tests.{ne_eqb, eqb-true, eqb-false, ltb-true, ltb-false}
use Rattle.ground.proofs.Laws.Choice.{cond-elim, by-test}
use Rattle.wire_spec.specs.Stuffing.{stuffed, stuffing, special, specials}
use Rattle.wire_spec.specs.Image.{start, stop}

-- what holds of FD, FE and FF holds of every byte from FD on
by-special : (P : ℕ → Type 0) (b : ℕ) → 0xFD ≤ b → b < 0x100 → P 0xFD → P 0xFE → P 0xFF → P b
by-special P b least most fd fe ff = go (dec_le b 0xFD) (dec_le b 0xFE)
  where
    go : Dec (b ≤ 0xFD) → Dec (b ≤ 0xFE) → P b
    go (yes h) k = subst P (omega arith) fd
    go (no h) (yes k) = subst P (omega arith) fe
    go (no h) (no k) = subst P (omega arith) ff

-- FD, FE and FF are the special bytes
pub plain-is : (b : ℕ) → b < 0xFD → special b ≡ false
plain-is b h = simp (ne_eqb b 0xFD (omega arith), ne_eqb b 0xFE (omega arith), ne_eqb b 0xFF (omega arith))

pub special-is : (b : ℕ) → 0xFD ≤ b → b < 0x100 → special b ≡ true
special-is b least most = by-special (λ (n : ℕ). special n ≡ true) b least most refl refl refl

-- they are the bytes over FC
pub over-is : (b : ℕ) → b < 0x100 → ltb 0xFC b ≡ special b
over-is b most =
    by-test (λ (t : Bool). t ≡ special b) (ltb 0xFC b)
    (λ over. sym (special-is b (omega (arith, ltb-true 0xFC b over)) most)) (λ under. sym (plain-is b (omega (arith, ltb-false 0xFC b under))))

-- a byte that is none of them is not this one of them
pub plain-ne : (b x : ℕ) → special b ≡ false → special x ≡ true → eqb b x ≡ false
plain-ne b x other one = ne_eqb b x (λ e. true≢false (sym one ∙ ap special (sym e) ∙ other))

-- the four cases of a stuffed byte
pub by-stuffed : (P : ℕ → List ℕ → Type 0)
    → P 0xFD (0xFF ∷ 0x02 ∷ [])
    → P 0xFE (0xFF ∷ 0x01 ∷ [])
    → P 0xFF (0xFF ∷ 0x00 ∷ [])
    → ((b : ℕ) → special b ≡ false → P b (b ∷ []))
    → (b : ℕ) → P b (stuffed b)
unfolding stuffed
by-stuffed P fd fe ff plain b =
    cond-elim (P b) (eqb b 0xFD) (λ t. rw (eqb-true b 0xFD t) fd)
    (λ f. cond-elim (P b) (eqb b 0xFE) (λ t. rw (eqb-true b 0xFE t) fe)
    (λ g. cond-elim (P b) (eqb b 0xFF) (λ t. rw (eqb-true b 0xFF t) ff) (λ h. plain b (rw (f, g, h)))))

-- what is not special stands for itself
pub stuffed-other : (b : ℕ) → special b ≡ false → stuffed b ≡ b ∷ []
stuffed-other =
    by-stuffed (λ (b : ℕ) (l : List ℕ). special b ≡ false → l ≡ b ∷ [])
    (λ e. absurd (true≢false e)) (λ e. absurd (true≢false e)) (λ e. absurd (true≢false e)) (λ b e k. refl)

pub stuffed-plain : (b : ℕ) → b < 0xFD → stuffed b ≡ b ∷ []
stuffed-plain b h = stuffed-other b (plain-is b h)

-- any other is FF and its distance from FF
pub stuffed-special : (b : ℕ) → 0xFD ≤ b → b < 0x100 → stuffed b ≡ 0xFF ∷ (0xFF - b) ∷ []
unfolding stuffed
stuffed-special b least most = by-special (λ (n : ℕ). stuffed n ≡ 0xFF ∷ (0xFF - n) ∷ []) b least most refl refl refl

-- so FF and its partner are such a byte, stuffed
pub stuffed-partner : (p : ℕ) → p ≤ 0x02 → stuffed (0xFF - p) ≡ 0xFF ∷ p ∷ []
stuffed-partner p known =
    let back : 0xFF - (0xFF - p) ≡ p = omega arith in
    rw back at (stuffed-special (0xFF - p) (omega arith) (omega arith))

-- one content after the other
pub stuffing-append : (k l : List ℕ) → stuffing (k ++ l) ≡ stuffing k ++ stuffing l
unfolding stuffing
stuffing-append [] l = refl
stuffing-append (b ∷ k) l = rw (stuffing-append k l, append_assoc)

-- the count goes up by one at FD, FE and FF, and at no other byte
pub specials-plain : (b : ℕ) (s : List ℕ) → b < 0xFD → specials (b ∷ s) ≡ specials s
unfolding specials
specials-plain b s h = rw (plain-is b h) (zero-add (specials s))

pub specials-special : (b : ℕ) (s : List ℕ) → 0xFD ≤ b → b < 0x100 → specials (b ∷ s) ≡ 1 + specials s
unfolding specials
specials-special b s least most = by-special (λ (n : ℕ). specials (n ∷ s) ≡ 1 + specials s) b least most refl refl refl

pub specials-append : (k l : List ℕ) → specials (k ++ l) ≡ specials k + specials l
unfolding specials
specials-append [] l = sym (zero-add (specials l))
specials-append (b ∷ k) l = let h = specials-append k l in omega arith

pub specials-most : (content : List ℕ) → specials content ≤ length content
unfolding specials
specials-most [] = zero-le
specials-most (b ∷ bs) =
    let one : cond (special b) 1 0 ≤ 1 = cond-elim (λ (n : ℕ). n ≤ 1) (special b) (λ t. lit≤ tt) (λ f. lit≤ tt) in
    omega (arith, specials-most bs)

-- a byte travels as one byte, and as two where it is special
length-stuffed : (b : ℕ) → length (stuffed b) ≡ 1 + cond (special b) 1 0
length-stuffed =
    by-stuffed (λ (b : ℕ) (l : List ℕ). length l ≡ 1 + cond (special b) 1 0) refl refl refl (λ b e. rw e)

pub length-stuffing : (content : List ℕ) → length (stuffing content) ≡ length content + specials content
unfolding stuffing specials
length-stuffing [] = refl
length-stuffing (b ∷ bs) = simp length-append (omega (arith, length-stuffed b, length-stuffing bs))

-- neither start nor stop
abbrev pub NeitherStartNorStop : ℕ → Type 0
NeitherStartNorStop b = (b ≡ start → ⊥) × (b ≡ stop → ⊥)

pub plain-neither : (b : ℕ) → special b ≡ false → NeitherStartNorStop b
plain-neither b plain = (eqb-false b start (plain-ne b start plain refl), eqb-false b stop (plain-ne b stop plain refl))

pair-neither : (p : ℕ) → p ≤ 0x02 → (x : ℕ) → Memᴰ x (0xFF ∷ p ∷ []) → NeitherStartNorStop x
pair-neither p h x m =
    ⊎_elim (λ e. omega arith) (λ n. let e = Memᴰ.eq_of_singleton n in omega arith) (Memᴰ.cases_cons m)

stuffed-neither : (b x : ℕ) → Memᴰ x (stuffed b) → NeitherStartNorStop x
stuffed-neither =
    by-stuffed (λ (b : ℕ) (l : List ℕ). (x : ℕ) → Memᴰ x l → NeitherStartNorStop x)
    (pair-neither 0x02 (lit≤ tt)) (pair-neither 0x01 (lit≤ tt)) (pair-neither 0x00 (lit≤ tt))
    (λ b plain x m. rw (Memᴰ.eq_of_singleton m) (plain-neither b plain))

-- stuffing has no FD and no FE in it
pub stuffing-neither : (content : List ℕ) (x : ℕ) → Memᴰ x (stuffing content) → NeitherStartNorStop x
unfolding stuffing
stuffing-neither [] x m = absurd (Memᴰ.not-nil m)
stuffing-neither (b ∷ bs) x m = ⊎_elim (stuffed-neither b x) (stuffing-neither bs x) (Memᴰ.append_cases (stuffed b) m)
