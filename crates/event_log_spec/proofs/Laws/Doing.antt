-- What a request makes the log do, by the rows of its table.
-- Assumes nothing.
use mathlib.Core.Path.{◌≡◌, refl, sym, subst⁻¹}
use mathlib.Core.Bool.{false}
use mathlib.Core.List.{List, [], ◌∷◌}
use Prim.Native.Nat.{ℕ}
use native.Mathlib.Omega.{arith}
use lib.Dec.{eqb}
use lib.ListN.{length}
use borrow.Author.Tests.{eqb-true, eqb-false, ne_eqb}
use Rattle.ground.proofs.Laws.Choice.{cond-elim}
use Rattle.event_log_spec.specs.declared.log.Doing.{Doing}
use Rattle.event_log_spec.specs.declared.log.Doing.TheVariants.{Read, Delete, Restore, Clear, Nack}
use Rattle.event_log_spec.specs.Doing.{unless_data, unless_none, doing, Known, read, delete, restore, clear, DoingTable, unknown, with_data, none_to_read, none_to_delete, reads, deletes, restores, clears}

-- data is present, or there is none
some-data : («data» : List ℕ) → («data» ≡ [] → ⊥) → eqb (length «data») 0 ≡ false
some-data [] some = absurd (some refl)
some-data (b ∷ more) some = ne_eqb (length (b ∷ more)) 0 (λ none. omega arith)

nacks-data : («data» : List ℕ) (d : Doing) → («data» ≡ [] → ⊥) → unless_data «data» d ≡ Nack 3
nacks-data «data» d some = rw (some-data «data» some)

-- ---- the row that `doing` answers by

module _ {code waiting : ℕ} where
  by-data : («data» : List ℕ) (d : Doing) → Known code → DoingTable code [] waiting d → DoingTable code «data» waiting (unless_data «data» d)
  by-data [] d known bare = bare
  by-data (b ∷ more) d known bare =
      let some : b ∷ more ≡ [] → ⊥ = λ none. cc in
      subst⁻¹ (DoingTable code (b ∷ more) waiting) (nacks-data (b ∷ more) d some) (with_data known some)

  by-waiting : (d : Doing) → DoingTable code [] 0 (Nack 4) → ((waiting ≡ 0 → ⊥) → DoingTable code [] waiting d)
      → DoingTable code [] waiting (unless_none waiting d)
  by-waiting d none some =
      cond-elim (DoingTable code [] waiting) (eqb waiting 0)
      (λ t. subst⁻¹ (λ (w : ℕ). DoingTable code [] w (Nack 4)) (eqb-true waiting 0 t) none)
      (λ f. some (eqb-false waiting 0 f))

unknown-is : {code : ℕ} → (code ≡ 0x10 → ⊥) → (code ≡ 0x11 → ⊥) → (code ≡ 0x12 → ⊥) → (code ≡ 0x13 → ⊥) → Known code → ⊥
unknown-is f g h j read = f refl
unknown-is f g h j delete = g refl
unknown-is f g h j restore = h refl
unknown-is f g h j clear = j refl

pub doing-by-table : (code : ℕ) («data» : List ℕ) (waiting : ℕ) → DoingTable code «data» waiting (doing code «data» waiting)
unfolding doing
doing-by-table code «data» waiting =
    cond-elim (DoingTable code «data» waiting) (eqb code 0x10)
    (λ t. at (eqb-true code 0x10 t) (unless_data «data» (unless_none waiting Read)) (by-data «data» (unless_none waiting Read) read (by-waiting Read none_to_read reads)))
    (λ f. cond-elim (DoingTable code «data» waiting) (eqb code 0x11)
    (λ t. at (eqb-true code 0x11 t) (unless_data «data» (unless_none waiting Delete)) (by-data «data» (unless_none waiting Delete) delete (by-waiting Delete none_to_delete deletes)))
    (λ g. cond-elim (DoingTable code «data» waiting) (eqb code 0x12)
    (λ t. at (eqb-true code 0x12 t) (unless_data «data» Restore) (by-data «data» Restore restore restores))
    (λ h. cond-elim (DoingTable code «data» waiting) (eqb code 0x13)
    (λ t. at (eqb-true code 0x13 t) (unless_data «data» Clear) (by-data «data» Clear clear clears))
    (λ j. unknown (unknown-is (eqb-false code 0x10 f) (eqb-false code 0x11 g) (eqb-false code 0x12 h) (eqb-false code 0x13 j))))))
  where
    at : {known : ℕ} → code ≡ known → (d : Doing) → DoingTable known «data» waiting d → DoingTable code «data» waiting d
    at is d = subst⁻¹ (λ (c : ℕ). DoingTable c «data» waiting d) is

-- ---- and no other

pub no_code : {code : ℕ} (known : ℕ) → Known known → (Known code → ⊥) → eqb code known ≡ false
no_code {code} known is never = ne_eqb code known (λ e. never (subst⁻¹ Known e is))

pub doing-only : {code : ℕ} {«data» : List ℕ} {waiting : ℕ} {d : Doing} → DoingTable code «data» waiting d → d ≡ doing code «data» waiting
unfolding doing
doing-only (unknown never) = rw (no_code 0x10 read never, no_code 0x11 delete never, no_code 0x12 restore never, no_code 0x13 clear never)
doing-only {«data»} {waiting} (with_data read some) = sym (nacks-data «data» (unless_none waiting Read) some)
doing-only {«data»} {waiting} (with_data delete some) = sym (nacks-data «data» (unless_none waiting Delete) some)
doing-only {«data»} (with_data restore some) = sym (nacks-data «data» Restore some)
doing-only {«data»} (with_data clear some) = sym (nacks-data «data» Clear some)
doing-only none_to_read = refl
doing-only none_to_delete = refl
doing-only {waiting} (reads some) = rw (ne_eqb waiting 0 some)
doing-only {waiting} (deletes some) = rw (ne_eqb waiting 0 some)
doing-only restores = refl
doing-only clears = refl
