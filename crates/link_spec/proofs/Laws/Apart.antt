-- Images that stand in one stream never overlap: inside an image no byte is FE but its last.
-- Assumes nothing.
use mathlib.Core.Path.{◌≡◌, refl, sym, ap, ◌∙◌}
use mathlib.Core.List.{List, [], ◌∷◌, ◌++◌, append_assoc, Memᴰ}
use Prim.Native.Nat.{ℕ, zero, suc, ◌+◌, ◌-◌, ◌≤◌, ◌<◌}
use native.Mathlib.Decide.{dec_le}
use native.Mathlib.Omega.{arith}
use lib.ListN.{length, get_or, length-append, get_or-append}
use lib.Seq.{get_or-append_seam, get_or-append-add}
use Rattle.wire_spec.specs.Stuffing.{stuffing}
use Rattle.wire_spec.specs.Image.{start, stop, image}
use Rattle.wire_spec.proofs.Laws.Stuffing.{stuffing-neither}
use Rattle.link_spec.specs.declared.station.Station.{Station}
use Rattle.link_spec.specs.Station.{checked}
use Rattle.link_spec.specs.Listing.{Stands}

-- an image without its stop byte
abbrev begun : List ℕ → List ℕ
begun content = start ∷ stuffing content

length-begun : (content : List ℕ) → length (image content) ≡ length (begun content) + 1
unfolding image
length-begun content = omega (arith, length-append (stuffing content) (stop ∷ []))

member : (l : List ℕ) (i : ℕ) → i < length l → Memᴰ (get_or l i 0) l
member [] i h = absurd (omega arith)
member (b ∷ bs) zero h = Memᴰ.head refl
member (b ∷ bs) (suc i) h = Memᴰ.tail (member bs i (omega arith))

-- no byte of it is a stop byte
no_stop : (content : List ℕ) (i : ℕ) → i < length (begun content) → get_or (begun content) i 0 ≡ stop → ⊥
no_stop content zero h e = absurd (omega arith)
no_stop content (suc i) h e = (stuffing-neither content (get_or (stuffing content) i 0) (member (stuffing content) i (omega arith))).1 e

module _ {station : Station} {stream : List ℕ} where
  split : {place : ℕ} {front : List ℕ} (s : Stands station stream place front)
      → stream ≡ s.before ++ (begun (checked station front) ++ (stop ∷ s.after))
  unfolding image
  split {front = front} s =
      s.split
      ∙ ap (λ (l : List ℕ). s.before ++ (start ∷ l)) (append_assoc (stuffing (checked station front)) (stop ∷ []) s.after)

  -- its last byte is one
  stop-at : {place : ℕ} {front : List ℕ} (s : Stands station stream place front)
      → get_or stream (length s.before + length (begun (checked station front))) 0 ≡ stop
  stop-at {front = front} s =
      let w = begun (checked station front) in
      ap (λ (l : List ℕ). get_or l (length s.before + length w) 0) (split s)
      ∙ get_or-append-add s.before (w ++ (stop ∷ s.after)) (length w) 0
      ∙ get_or-append_seam w stop s.after 0

  inside-at : {place : ℕ} {front : List ℕ} (s : Stands station stream place front) (i : ℕ)
      → i < length (begun (checked station front))
      → get_or stream (length s.before + i) 0 ≡ get_or (begun (checked station front)) i 0
  inside-at {front = front} s i h =
      let w = begun (checked station front) in
      ap (λ (l : List ℕ). get_or l (length s.before + i) 0) (split s)
      ∙ get_or-append-add s.before (w ++ (stop ∷ s.after)) i 0
      ∙ get_or-append w (stop ∷ s.after) 0 i h

  -- so the one that ends later begins after the other's end
  pub images-apart : {p q : ℕ} {f g : List ℕ} → Stands station stream p f → Stands station stream q g → p < q
      → p + length (image (checked station g)) ≤ q
  images-apart {p} {q} {f} {g} s t later = go (dec_le p (length t.before))
    where
      go : Dec (p ≤ length t.before) → p + length (image (checked station g)) ≤ q
      go (yes h) = omega (arith, t.ends)
      go (no h) =
          let ends = s.ends in
          let ends' = t.ends in
          let n = length-begun (checked station f) in
          let m = length-begun (checked station g) in
          let j = length s.before + length (begun (checked station f)) - length t.before in
          let same : length t.before + j ≡ length s.before + length (begun (checked station f)) = omega arith in
          let within : j < length (begun (checked station g)) = omega arith in
          absurd (no_stop (checked station g) j within
          (sym (inside-at t j within) ∙ ap (λ (k : ℕ). get_or stream k 0) same ∙ stop-at s))

  -- and none is longer than what stands before its end
  pub image-fits : {q : ℕ} {g : List ℕ} → Stands station stream q g → (length (image (checked station g)) ≤ q) × (q ≤ length stream)
  image-fits {g = g} t = (
    omega (arith, t.ends),
    omega (
      arith,
      t.ends,
      ap length t.split,
      length-append t.before (image (checked station g) ++ t.after),
      length-append (image (checked station g)) t.after,
    ),
  )
