-- A call's statement leaves no choice: two results that it allows are equal. docs/STATEMENTS.md cites one of these for each call.
-- Assumes nothing.
use mathlib.Core.Path.{◌≡◌, refl, sym, ap, ◌∙◌}
use mathlib.Core.Logic.{⊎_elim}
use mathlib.Core.List.{List}
use Prim.Native.Nat.{ℕ}
use native.Mathlib.Omega.{arith}
use Rattle.std.specs.Prelude.{Option, None, Some, Result, Ok, Err}
use Rattle.ground.specs.declared.refusal.Refusal.{Refusal}
use Rattle.ground.specs.Refusals.{number, Tally, tally}
use Rattle.ground.specs.Laying.{Ended, ended}
use Rattle.ground.specs.Lesser.{Least}
use Rattle.ground.proofs.Laws.Refusals.{number-injective, number-some}

-- of a call whose statement is an equation of the result itself: a number, a test, a turn, a receiver or a tape
pub same : {A : Type 0} {r s t : A} → r ≡ t → s ≡ t → r ≡ s
same p q = p ∙ sym q

-- of the lesser of two numbers
pub same-least : {a b r s : ℕ} → Least a b r → Least a b s → r ≡ s
same-least p q =
    ⊎_elim
    (λ e. ⊎_elim (λ f. omega arith) (λ f. omega (arith, p.second, q.first)) q.one)
    (λ e. ⊎_elim (λ f. omega (arith, p.first, q.second)) (λ f. omega arith) q.one) p.one

abbrev known : Refusal → Option Refusal → Refusal
known other None = other
known other (Some why) = why

-- a refusal is known by its number
pub err-injective : {A : Type 0} (v w : Refusal) → number v ≡ number w → ◌≡◌ {A = Result A Refusal} (Err v) (Err w)
err-injective v w e = ap (λ (why : Option Refusal). Err (known v why)) (number-injective (Some v) (Some w) e)

tally-injective : (r s : Result ℕ Refusal) → tally r ≡ tally s → r ≡ s
tally-injective (Ok n) (Ok m) e = ap (λ (a : Tally). Ok a.count) e
tally-injective (Ok n) (Err w) e = absurd (number-some w (sym (ap (λ (a : Tally). a.refusal) e)))
tally-injective (Err v) (Ok m) e = absurd (number-some v (ap (λ (a : Tally). a.refusal) e))
tally-injective (Err v) (Err w) e = err-injective v w (ap (λ (a : Tally). a.refusal) e)

-- of a call that answers a count or a refusal
pub same-tally : {r s : Result ℕ Refusal} {t : Tally} → tally r ≡ t → tally s ≡ t → r ≡ s
same-tally {r} {s} p q = tally-injective r s (same p q)

ended-injective : (at : ℕ) (r s : Result ℕ Refusal) (o p : List ℕ) → ended at r o ≡ ended at s p → r ≡ s
ended-injective at (Ok n) (Ok m) o p e = ap (λ (a : Ended). Ok a.end) e
ended-injective at (Ok n) (Err w) o p e = absurd (number-some w (sym (ap (λ (a : Ended). a.refusal) e)))
ended-injective at (Err v) (Ok m) o p e = absurd (number-some v (ap (λ (a : Ended). a.refusal) e))
ended-injective at (Err v) (Err w) o p e = err-injective v w (ap (λ (a : Ended). a.refusal) e)

-- what a call left is the buffer, refused or not
pub out-ended : (at : ℕ) (r : Result ℕ Refusal) (o : List ℕ) → (ended at r o).out ≡ o
out-ended at (Ok n) o = refl
out-ended at (Err v) o = refl

-- of a call that puts bytes at a place of a lent buffer
pub same_ended : (at : ℕ) {r s : Result ℕ Refusal} {o p : List ℕ} {t : Ended} → ended at r o ≡ t → ended at s p ≡ t → (r ≡ s) × (o ≡ p)
same_ended at {r} {s} {o} {p} d f =
    let e = same d f in
    (ended-injective at r s o p e, sym (out-ended at r o) ∙ ap (λ (a : Ended). a.out) e ∙ out-ended at s p)
