-- Bytes put into a buffer part by part, each after the one before.
-- Assumes nothing.
use Prim.Native.Nat.{ℕ, ◌+◌, ◌-◌, ◌≤◌}
use mathlib.Core.Path.{◌≡◌, refl, sym, ap, ap₂, ◌∙◌}
use mathlib.Core.List.{List, ◌++◌}
use native.Mathlib.Nat.{zero-add}
use native.Mathlib.Omega.{arith}
use lib.ListN.{length, take, length-append, length-take, length-drop}
use borrow.Rule.Slice.PartMut.{put_mid, mid_of}
use Rattle.std.specs.Prelude.{Result, Ok, Err, IsOk}
use Rattle.ground.specs.declared.refusal.Refusal.{Refusal}
use Rattle.ground.specs.Laying.{laid, Ended, ended, put}
use Rattle.ground.proofs.Laws.Laying.{put-placed, laid-part, laid-after, take-front}
use Rattle.ground.proofs.Laws.Refusals.{number-some}

-- a call that puts bytes where there is room for them is not refused
pub put-ok : (r : Result ℕ Refusal) (left bytes before : List ℕ) → ended 0 r left ≡ put bytes before 0 → length bytes ≤ length before → IsOk r
put-ok (Ok end) left bytes before says fits = refl
put-ok (Err why) left bytes before says fits =
    absurd (number-some why (ap (λ (e : Ended). e.refusal) (says ∙ put-placed bytes before 0 (omega arith))))

-- ---- the part of a buffer from a place on

length-part : (l : List ℕ) (at : ℕ) → length (mid_of at (length l - at) l) ≡ length l - at
length-part l at = simp (length-take, length-drop) (omega arith)

-- a call that is lent a part with room for its bytes is not refused
pub part-ok : (r : Result ℕ Refusal) (left l : List ℕ) (at : ℕ) (bytes : List ℕ)
    → ended 0 r left ≡ put bytes (mid_of at (length l - at) l) 0
    → at + length bytes ≤ length l
    → IsOk r
part-ok r left l at bytes says fits = put-ok r left bytes (mid_of at (length l - at) l) says (omega (arith, length-part l at))

-- and what it put to the front of the part stands in the whole where the part begins
pub part_placed : {e : Ended} (l : List ℕ) (at : ℕ) (bytes : List ℕ) → e ≡ put bytes (mid_of at (length l - at) l) 0 → at + length bytes ≤ length l
    → (e.end ≡ length bytes) × (put_mid at (length l - at) l e.out ≡ laid l at bytes)
part_placed l at bytes says fits =
    let lies = says ∙ put-placed bytes (mid_of at (length l - at) l) 0 (omega (arith, length-part l at)) in (
      ap (λ (d : Ended). d.end) lies ∙ zero-add (length bytes),
      ap (λ (d : Ended). put_mid at (length l - at) l d.out) lies ∙ laid-part l at bytes fits,
    )

-- ---- the front of a buffer

-- the bytes stand at the front of what was the buffer `before`, and end there
abbrev pub Front : List ℕ → List ℕ → ℕ → List ℕ → Type 0
Front before bytes end now = (end ≡ length bytes) × (now ≡ laid before 0 bytes)

pub front-first : {e : Ended} (before bytes : List ℕ) → e ≡ put bytes before 0 → length bytes ≤ length before → Front before bytes e.end e.out
front-first before bytes says fits =
    let lies = says ∙ put-placed bytes before 0 (omega arith) in
    (ap (λ (d : Ended). d.end) lies ∙ zero-add (length bytes), ap (λ (d : Ended). d.out) lies)

pub front-more : (before x y : List ℕ) {end after : ℕ} {now then : List ℕ} → Front before x end now → after ≡ end + length y → then ≡ laid now end y
    → Front before (x ++ y) after then
front-more before x y f ends lies = (
  ends ∙ ap (λ (n : ℕ). n + length y) f.0 ∙ sym (length-append x y),
  lies ∙ ap₂ (λ (l : List ℕ) (n : ℕ). laid l n y) f.1 f.0 ∙ laid-after before x y,
)

pub take-of-front : (before bytes : List ℕ) {end : ℕ} {now : List ℕ} → Front before bytes end now → take end now ≡ bytes
take-of-front before bytes f = ap₂ take f.0 f.1 ∙ take-front before bytes
