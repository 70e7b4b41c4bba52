-- What the desk asks of a line's numbers: images do not overlap, so what is inside them was heard; what was reserved is no less, and at most
-- twice as much; and the difference is at most as far from zero as what was heard.
-- Assumes nothing.
use mathlib.Core.Path.{◌≡◌, refl, sym, ap}
use mathlib.Core.Bool.{true, false≢true}
use mathlib.Core.List.{List, [], ◌∷◌, Memᴰ}
use Prim.Native.Nat.{ℕ, zero, suc, ◌+◌, ◌*◌, ◌-◌, ◌≤◌, ◌<◌, zero-le}
use native.Mathlib.Decide.{dec_le}
use native.Mathlib.Omega.{arith}
use lib.Dec.{le→leb}
use lib.IntN.{pos, neg_ℤ, ◌-ℤ◌}
use lib.ListN.{length}
use lib.Signed.{◌≤ℤ◌, le_z_yes}
use Rattle.ground.proofs.Laws.Choice.{cond-elim}
use Rattle.wire_spec.proofs.Laws.Image.{length-image, most-image}
use Rattle.wire_spec.specs.Image.{image_length}
use Rattle.link_spec.specs.declared.station.Station.{Station}
use Rattle.link_spec.specs.Events.{Name, NONE, FRAME, CHECK, SHORT, LONG, PAIR, ADDR}
use Rattle.link_spec.specs.Station.{checked}
use Rattle.link_spec.specs.Hearing.{Told, told_at}
use Rattle.link_spec.specs.Listing.{Stands, PlacesRise}
use Rattle.link_spec.proofs.Laws.Apart.{images-apart, image-fits}
use Rattle.text.proofs.Laws.Signed.{less-above, less-below}
use Rattle.tape_spec.specs.declared.tape.Line.{Line}
use Rattle.tape_spec.specs.Limits.{most_records}
use Rattle.tape_spec.specs.Whole.{Record, entries, station_on, fresh_receivers, receiver_on}
use Rattle.tape_spec.specs.Frames.{bytes_on}
use Rattle.tape_spec.proofs.Laws.Frames.{told, told-lists}
use Rattle.totals_spec.specs.declared.totals.Sums.{Sums}
use Rattle.totals_spec.specs.Whole.{is_frame, fronts_on, image_bytes, reserved_bytes, sum_over, sums_on, line_report}
use Rattle.totals_spec.specs.Sessions.{Bounded}
use Rattle.totals_spec.proofs.Laws.Counting.{bytes-few}
use Rattle.totals_spec.proofs.Laws.Sums.{fronts_told, listed-told}

frame_is : (e : Name) → is_frame e ≡ true → e ≡ FRAME
frame_is NONE frame = absurd (false≢true frame)
frame_is FRAME frame = refl
frame_is CHECK frame = absurd (false≢true frame)
frame_is SHORT frame = absurd (false≢true frame)
frame_is LONG frame = absurd (false≢true frame)
frame_is PAIR frame = absurd (false≢true frame)
frame_is ADDR frame = absurd (false≢true frame)

-- ---- images that do not overlap have room side by side

module _ (station : Station) (stream : List ℕ) where
  -- every image that ends after this place begins after it
  abbrev Free : ℕ → Type 0
  Free from = (q : ℕ) (g : List ℕ) → Stands station stream q g → from < q → from + image_bytes station g ≤ q

  images-fit : (ts : List Told) (from last : ℕ) → from ≤ last → from ≤ length stream → Free from → PlacesRise last ts
      → ((place : ℕ) (front : List ℕ) → Memᴰ (told_at place FRAME front) ts → Stands station stream place front)
      → from + sum_over (image_bytes station) (fronts_told ts) ≤ length stream
  unfolding fronts_told sum_over
  images-fit [] from last h within free rise stands = omega arith
  images-fit (t ∷ ts) from last h within free rise stands =
      let rest : (f : ℕ) → f ≤ t.place → f ≤ length stream → Free f → f + sum_over (image_bytes station) (fronts_told ts) ≤ length stream =
      λ f w r fr. images-fit ts f t.place w r fr rise.1 (λ place front m. stands place front (Memᴰ.tail m)) in
      cond-elim (λ (l : List (List ℕ)). from + sum_over (image_bytes station) l ≤ length stream) (is_frame t.event)
      (λ frame. let s = stands t.place t.content (Memᴰ.head (ap (λ (e : Name). told_at t.place e t.content) (sym (frame_is t.event frame)))) in
      let begins = free t.place t.content s (omega (arith, rise.0)) in
      let after = rest t.place (omega arith) (image-fits s).1 (λ q g stands-g later. images-apart s stands-g later) in
      omega arith)
      (λ other. rest from (omega (arith, rise.0)) within free)

-- ---- sums over frames, frame by frame

module _ (station : Station) where
  image-some : (front : List ℕ) → 1 ≤ image_bytes station front
  unfolding image_length
  image-some front = let e = length-image (checked station front) in omega arith

  image-twice : (front : List ℕ) → reserved_bytes station front ≤ 2 * image_bytes station front
  unfolding image_length
  image-twice front = let e = length-image (checked station front) in omega arith

  frames-inside : (fs : List (List ℕ)) → length fs ≤ sum_over (image_bytes station) fs
  unfolding sum_over
  frames-inside [] = zero-le
  frames-inside (f ∷ fs) = let h = frames-inside fs in omega (arith, image-some f)

  inside-reserved : (fs : List (List ℕ)) → sum_over (image_bytes station) fs ≤ sum_over (reserved_bytes station) fs
  unfolding sum_over
  inside-reserved [] = zero-le
  inside-reserved (f ∷ fs) = let h = inside-reserved fs in omega (arith, most-image (checked station f))

  reserved-twice : (fs : List (List ℕ)) → sum_over (reserved_bytes station) fs ≤ 2 * sum_over (image_bytes station) fs
  unfolding sum_over
  reserved-twice [] = zero-le
  reserved-twice (f ∷ fs) = let h = reserved-twice fs in omega (arith, image-twice f)

-- ---- the laws of a line's numbers, each by itself

module _ (line : Line) (rs : List Record) where
  abbrev sums : Sums
  sums = sums_on line rs

  -- no line hears more bytes than a tape has records
  pub heard-within : length rs ≤ most_records → sums.heard ≤ most_records
  heard-within few = omega (arith, bytes-few line rs)

  -- listed images never overlap, so what is inside them was heard
  pub inside-within-heard : sums.inside ≤ sums.heard
  inside-within-heard =
      let station = station_on line in
      let stream = bytes_on line rs in
      let ts = told 0 (receiver_on line fresh_receivers) stream in
      let lists = told-lists line stream in
      let fit = images-fit station stream ts 0 0 zero-le zero-le (λ q g s later. omega (arith, (image-fits s).0)) lists.rise lists.only in
      omega (arith, ap (sum_over (image_bytes station)) (listed-told line rs 0 0 fresh_receivers), fit)

  pub frames-within-heard : sums.frames ≤ sums.heard
  frames-within-heard =
      omega (arith, frames-inside (station_on line) (fronts_on line (entries 0 fresh_receivers rs)), inside-within-heard)

  pub inside-within-reserved : sums.inside ≤ sums.reserved
  inside-within-reserved = inside-reserved (station_on line) (fronts_on line (entries 0 fresh_receivers rs))

  pub reserved-within-twice : sums.reserved ≤ 2 * sums.inside
  reserved-within-twice = reserved-twice (station_on line) (fronts_on line (entries 0 fresh_receivers rs))

-- ---- the difference

below-zero : (h n : ℕ) → n ≤ h → neg_ℤ (pos h) ≤ℤ neg_ℤ (pos n)
below-zero h zero le = go h
  where
    go : (k : ℕ) → neg_ℤ (pos k) ≤ℤ pos 0
    go zero = le_z_yes tt
    go (suc k) = le_z_yes tt
below-zero zero (suc n) le = absurd (omega arith)
below-zero (suc h) (suc n) le = le_z_yes (le→leb n h (omega arith))

below-pos : (h n : ℕ) → neg_ℤ (pos h) ≤ℤ pos n
below-pos zero n = le_z_yes (le→leb 0 n zero-le)
below-pos (suc h) n = le_z_yes tt

-- reserved less heard, where reserved is at most twice as much: no more than heard below zero or above
pub difference-least : (reserved heard : ℕ) → neg_ℤ (pos heard) ≤ℤ (pos reserved -ℤ pos heard)
difference-least reserved heard = go (dec_le heard reserved)
  where
    go : Dec (heard ≤ reserved) → neg_ℤ (pos heard) ≤ℤ (pos reserved -ℤ pos heard)
    go (yes h) = rw (less-above reserved heard h) (below-pos heard (reserved - heard))
    go (no h) =
        let lt : reserved < heard = omega arith in
        let one : suc (heard - suc reserved) ≡ heard - reserved = omega arith in
        rw (less-below reserved heard lt) (below-zero heard (suc (heard - suc reserved)) (omega arith))

pub difference-most : (reserved heard : ℕ) → reserved ≤ 2 * heard → (pos reserved -ℤ pos heard) ≤ℤ pos heard
difference-most reserved heard twice = go (dec_le heard reserved)
  where
    go : Dec (heard ≤ reserved) → (pos reserved -ℤ pos heard) ≤ℤ pos heard
    go (yes h) = rw (less-above reserved heard h) (le_z_yes (le→leb (reserved - heard) heard (omega arith)))
    go (no h) = rw (less-below reserved heard (omega arith)) (le_z_yes tt)

-- ---- together

pub bounded : (line : Line) (rs : List Record) → length rs ≤ most_records → Bounded (line_report line (sums_on line rs))
bounded line rs few =
    let s = sums_on line rs in
    let i = inside-within-heard line rs in
    let t = reserved-within-twice line rs in
    record {
      few = heard-within line rs few;
      frames = frames-within-heard line rs;
      inside = i;
      reserved = inside-within-reserved line rs;
      twice = t;
      least = difference-least s.reserved s.heard;
      most = difference-most s.reserved s.heard (omega arith);
    }
