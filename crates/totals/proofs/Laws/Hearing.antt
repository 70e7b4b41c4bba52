-- How a line's bytes are heard together: at each turn, what is left of the piece gives, from the receiver and the sums so far, what the whole
-- piece gives from the first.
-- Assumes nothing.
use mathlib.Core.Path.{◌≡◌, refl, sym, ap, subst, subst⁻¹, ◌∙◌}
use mathlib.Core.Bool.{true, false}
use mathlib.Core.List.{List, ◌∷◌}
use Prim.Native.Nat.{ℕ, ◌+◌, ◌*◌, ◌-◌, ◌≤◌, ◌<◌, zero-le}
use native.Mathlib.Nat.{add_assoc}
use native.Mathlib.Omega.{arith}
use lib.ListN.{length, take, drop, get_or, drop_of_length-le}
use lib.Seq.{length-take-le}
use Rattle.std.specs.Prelude.{Some}
use Rattle.ground.proofs.Laws.Lists.{drop-next}
use Rattle.wire_spec.specs.Stuffing.{specials}
use Rattle.wire_spec.specs.Image.{image, image_length}
use Rattle.wire_spec.proofs.Laws.Stuffing.{specials-most}
use Rattle.wire_spec.proofs.Laws.Image.{length-image}
use Rattle.link_spec.specs.declared.event.Event.{Event}
use Rattle.link_spec.specs.declared.station.Station.{Station}
use Rattle.link_spec.specs.declared.receiver.Phase.{Phase}
use Rattle.link_spec.specs.declared.receiver.Phase.TheVariants.{Outside, Inside}
use Rattle.link_spec.specs.declared.receiver.Receiver.{Receiver}
use Rattle.link_spec.specs.declared.receiver.Turn.{Turn}
use Rattle.link_spec.specs.declared.receiver.Turn.TheVariants.{Stop, Tell}
use Rattle.link_spec.specs.Events.{FRAME, named, verdict}
use Rattle.link_spec.specs.Station.{check_on, checked, has_address}
use Rattle.link_spec.specs.Turning.{turn}
use Rattle.link_spec.specs.Receiving.{receiver_of, outside, moved, has_event, bad_receiver}
use Rattle.link_spec.proofs.Laws.Turning.{Sound, turn-sound}
use Rattle.link_spec.proofs.Laws.Fit.{Fit, fit-moved, fit-good}
use Rattle.link_spec.proofs.Laws.Carried.{stop-content}
use Rattle.tape_spec.specs.Limits.{most_records}
use Rattle.totals_spec.specs.declared.totals.Sums.{Sums}
use Rattle.totals_spec.specs.Whole.{is_frame, sums_of, image_bytes, reserved_bytes}
use Rattle.totals_spec.specs.Adding.{Account, account, with_bytes, with_frame, after_bytes}
use Rattle.totals_spec.proofs.Laws.Counting.{SumsWithin}
use Rattle.totals_spec.proofs.Laws.Turns.{tell-turn, stop-turn}
use Rattle.totals.specs.Sweeping.{Passes, Skipped, Kept}
use Rattle.totals.proofs.Laws.Sweeping.{passes-byte}

module _ (station : Station) (heard : ℕ) (piece : List ℕ) (all : Account) where
  -- the sums after so many bytes
  abbrev sums_now : ℕ → ℕ → ℕ → ℕ → Sums
  sums_now frames inside reserved taken = sums_of frames (heard + taken) inside reserved

  -- `taken` bytes were heard
  pub record Goes (phase : Phase) (count : ℕ) (content : List ℕ) (special frames inside reserved taken : ℕ) : Type 0 where
    pub part : taken ≤ length piece
    pub fit : Fit station (receiver_of station phase count content)
    pub counted : special ≡ specials (take count content)
    pub within : SumsWithin (most_records + taken) (sums_now frames inside reserved taken)
    pub same : after_bytes (account (receiver_of station phase count content) (sums_now frames inside reserved taken)) (drop taken piece) ≡ all

  module _ (good : has_address station ≡ true) {phase : Phase} {count : ℕ} {content : List ℕ} {special frames inside reserved taken : ℕ}
      (goes : Goes phase count content special frames inside reserved taken) where
    abbrev s : Receiver
    s = receiver_of station phase count content

    s-good : bad_receiver s ≡ false
    s-good = fit-good good goes.fit

    -- the sums stay within what more bytes allow
    within-more : (k : ℕ) → SumsWithin (most_records + (taken + k)) (sums_now frames inside reserved (taken + k))
    within-more k =
        let w = goes.within in
        record {
          frames = omega (arith, w.frames);
          heard = omega (arith, w.heard);
          inside = omega (arith, w.inside);
          reserved = omega (arith, w.reserved);
        }

    -- over some bytes without a FRAME
    pass : (k : ℕ) (phase' : Phase) (count' : ℕ) (content' : List ℕ) (special' : ℕ)
        → let r = receiver_of station phase' count' content' in
        Passes s (drop taken piece) k r (drop (taken + k) piece) → taken + k ≤ length piece → Fit station r
        → special' ≡ specials (take count' content')
        → Goes phase' count' content' special' frames inside reserved (taken + k)
    pass k phase' count' content' special' passes part fit is =
        let r = receiver_of station phase' count' content' in
        record {
          part = part;
          fit = fit;
          counted = is;
          within = within-more k;
          same =
              ap (λ (h : ℕ). after_bytes (account r (sums_of frames h inside reserved)) (drop (taken + k) piece)) (sym (add_assoc heard taken k))
              ∙ sym (passes.same (sums_now frames inside reserved taken))
              ∙ goes.same;
        }

    pub go-skip : {at : ℕ} → phase ≡ Outside → Skipped piece taken at → Goes phase count content special frames inside reserved at
    go-skip {at} out k =
        let here : taken + (at - taken) ≡ at = omega (arith, k.least) in
        subst (Goes phase count content special frames inside reserved) here
        (pass (at - taken) phase count content special
        (subst (λ (n : ℕ). Passes s (drop taken piece) (at - taken) s (drop n piece)) (sym here) (k.passes s out s-good))
        (omega (arith, k.least, k.most)) goes.fit goes.counted)

    pub go-keep : {kept : ℕ} {now : List ℕ} → phase ≡ Inside → Kept station content count piece taken kept now
        → Goes phase kept now special frames inside reserved (taken + (kept - count))
    go-keep {kept} {now} is k =
        pass (kept - count) phase kept now special
        (subst (λ (p : Phase). Passes (receiver_of station p count content) (drop taken piece) (kept - count) (receiver_of station p kept now)
        (drop (taken + (kept - count)) piece)) (sym is) (k.passes good))
        k.part (record { on = refl; sized = k.sized; within = k.most }) (goes.counted ∙ sym k.plain)

    -- the next byte
    module _ (more : taken < length piece) where
      abbrev b : ℕ
      b = get_or piece taken 0

      abbrev rest : List ℕ
      rest = drop (taken + 1) piece

      -- a turn with no event
      pub go-quiet : {t : Turn} (phase' : Phase) (count' : ℕ) (content' : List ℕ) (special' : ℕ) → t ≡ turn station phase count b
          → has_event t ≡ false
          → moved s t ≡ receiver_of station phase' count' content'
          → special' ≡ specials (take count' content')
          → Goes phase' count' content' special' frames inside reserved (taken + 1)
      go-quiet {t} phase' count' content' special' is quiet moves counts =
          pass 1 phase' count' content' special'
          (subst (λ (q : Receiver). Passes s (drop taken piece) 1 q rest) moves (passes-byte s piece taken s-good more is quiet))
          (omega arith)
          (subst (Fit station) moves (fit-moved goes.fit t (subst⁻¹ (Sound count) is (turn-sound station phase count b))))
          counts

      outside-fit : Fit station (outside station content)
      outside-fit = record { on = refl; sized = goes.fit.sized; within = zero-le }

      -- what is left after a byte with an event
      left-same : (sums : Sums)
          → after_bytes (account s (sums_now frames inside reserved taken)) (b ∷ rest) ≡ after_bytes (account (outside station content) sums) rest
          → after_bytes (account (outside station content) sums) rest ≡ all
      left-same sums turns =
          sym turns
          ∙ ap (after_bytes (account s (sums_now frames inside reserved taken))) (sym (drop-next piece taken more))
          ∙ goes.same

      -- the sums with one byte more
      abbrev byte_more : Sums
      byte_more = with_bytes 1 (sums_now frames inside reserved taken)

      next : (sums : Sums) (f i r : ℕ) → sums ≡ sums_of f (heard + taken + 1) i r
          → after_bytes (account s (sums_now frames inside reserved taken)) (b ∷ rest) ≡ after_bytes (account (outside station content) sums) rest
          → SumsWithin (most_records + (taken + 1)) (sums_now f i r (taken + 1))
          → Goes Outside 0 content 0 f i r (taken + 1)
      unfolding specials
      next sums f i r are turns w =
          record {
            part = omega arith;
            fit = outside-fit;
            counted = refl;
            within = w;
            same =
                ap (λ (h : ℕ). after_bytes (account (outside station content) (sums_of f h i r)) rest) (sym (add_assoc heard taken 1))
                ∙ ap (λ (q : Sums). after_bytes (account (outside station content) q) rest) (sym are)
                ∙ left-same sums turns;
          }

      -- the frame is given up
      pub go-tell : {why : Event} → Tell why ≡ turn station phase count b → Goes Outside 0 content 0 frames inside reserved (taken + 1)
      go-tell is =
          next byte_more frames inside reserved refl (tell-turn s (sums_now frames inside reserved taken) b rest s-good is) (within-more 1)

      -- a stop byte that tells no FRAME
      pub go-stop : Stop ≡ turn station phase count b → is_frame (named (Some (verdict (check_on station) (take count content)).event)) ≡ false
          → Goes Outside 0 content 0 frames inside reserved (taken + 1)
      go-stop is other =
          next byte_more frames inside reserved refl (stop-turn s (sums_now frames inside reserved taken) b rest s-good is ∙ rw other refl)
          (within-more 1)

      -- the content so far
      whole : length (take count content) ≡ count
      whole = length-take-le count content (omega (arith, goes.fit.sized, goes.fit.within))

      pub specials-few : special ≤ count
      specials-few = omega (arith, goes.counted, specials-most (take count content), whole)

      pub go-frame : Stop ≡ turn station phase count b → FRAME ≡ named (Some (verdict (check_on station) (take count content)).event)
          → Goes Outside 0 content 0 (frames + 1) (inside + (2 + count + special)) (reserved + (2 + 2 * count)) (taken + 1)
      unfolding image_length
      go-frame is frame =
          let v = verdict (check_on station) (take count content) in
          let front = take v.length content in
          let w = goes.within in
          let content-is : checked station front ≡ take count content = stop-content s frame in
          let inner : image_bytes station front ≡ 2 + count + special =
          ap (λ (c : List ℕ). length (image c)) content-is ∙ length-image (take count content) ∙ omega (arith, whole, goes.counted) in
          let outer : reserved_bytes station front ≡ 2 + 2 * count = ap (λ (c : List ℕ). 2 + 2 * length c) content-is ∙ omega (arith, whole) in
          next (with_frame station front byte_more) (frames + 1) (inside + (2 + count + special)) (reserved + (2 + 2 * count))
          (λ i. sums_of (frames + 1) (heard + taken + 1) (inside + inner i) (reserved + outer i))
          (stop-turn s (sums_now frames inside reserved taken) b rest s-good is ∙ rw (← frame) refl)
          (record {
            frames = omega (arith, w.frames);
            heard = omega (arith, w.heard);
            inside = omega (arith, w.inside, specials-few, goes.fit.within);
            reserved = omega (arith, w.reserved, goes.fit.within);
          })

  -- at the piece's end
  pub at-end : {phase : Phase} {count : ℕ} {content : List ℕ} {special frames inside reserved taken : ℕ}
      → Goes phase count content special frames inside reserved taken → length piece ≤ taken
      → account (receiver_of station phase count content) (sums_of frames (heard + length piece) inside reserved) ≡ all
  unfolding after_bytes
  at-end {phase} {count} {content} {special} {frames} {inside} {reserved} {taken} goes end =
      let far : length piece ≡ taken = omega (arith, goes.part) in
      ap (λ (n : ℕ). account (receiver_of station phase count content) (sums_of frames (heard + n) inside reserved)) far
      ∙ (rw (drop_of_length-le piece end) at goes.same)
