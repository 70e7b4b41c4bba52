-- The crew's half of demand 3: from wherever it is, an image within the limit drives a receiver to the event of its stop byte, and to
-- no event before.
-- Assumes nothing.
use mathlib.Core.Path.{◌≡◌, refl, sym, ap, ap₂, ◌∙◌}
use mathlib.Core.Bool.{true, false, true≢false}
use mathlib.Core.List.{List, [], ◌∷◌, ◌++◌, append_assoc, append-nil}
use Prim.Native.Nat.{ℕ, ◌+◌, ◌-◌, ◌≤◌, ◌<◌}
use native.Mathlib.Nat.{add-zero}
use native.Mathlib.Omega.{arith}
use lib.Dec.{lit≤}
use lib.ListN.{length, length-append}
use Rattle.wire_spec.specs.Limits.{most_content}
use Rattle.wire_spec.specs.Stuffing.{special, stuffed, stuffing}
use Rattle.wire_spec.specs.Image.{start, stop, image}
use Rattle.wire_spec.proofs.Laws.Stuffing.{by-stuffed, plain-neither}
use Rattle.link_spec.specs.declared.station.Station.{Station}
use Rattle.link_spec.specs.declared.station.Station.TheVariants.{Point, Addressed}
use Rattle.link_spec.specs.declared.receiver.Phase.TheVariants.{Inside, Pending}
use Rattle.link_spec.specs.declared.receiver.Turn.TheVariants.{Wait, Keep, Stop}
use Rattle.link_spec.specs.Station.{has_address, AddressTaken}
use Rattle.link_spec.specs.Turning.{inside, within, turn}
use Rattle.link_spec.specs.Rules.{first, Later, on_point, after_first, ByRule, address, waits, plain, pair}
use Rattle.link_spec.specs.Receiving.{outcome}
use Rattle.link_spec.specs.Hearing.{note}
use Rattle.link_spec.proofs.Laws.Address.{takes-plain}
use Rattle.link_spec.proofs.Laws.Turning.{rule-only}
use Rattle.link_spec.proofs.Laws.View.{View, view, nowhere, next, noted}
use Rattle.link_spec.proofs.Laws.Cuts.{tell}

-- ---- what a content byte may be after those before it

-- a byte that stands for itself is kept: as the address or after it
plain-kept : (station : Station) (k : List ℕ) (b : ℕ) (c : List ℕ) → AddressTaken station (k ++ (b ∷ c)) → special b ≡ false → length k < most_content
    → ByRule station (length k) b Inside (Keep b)
plain-kept Point k b c taken other room = plain on_point other room
plain-kept (Addressed own) [] b c taken other room =
    let n = plain-neither b other in
    address (first n.0 n.1 taken)
plain-kept (Addressed own) (a ∷ k) b c taken other room = plain after_first other room

-- one that stuffing changes is not the address
later : (station : Station) → has_address station ≡ true → (k : List ℕ) (b : ℕ) (c : List ℕ) → AddressTaken station (k ++ (b ∷ c)) → special b ≡ true
    → Later station (length k)
later Point good k b c taken changed = on_point
later (Addressed own) good [] b c taken changed = absurd (true≢false (sym changed ∙ takes-plain own b good taken))
later (Addressed own) good (a ∷ k) b c taken changed = after_first

-- ---- the wire bytes of a content byte

module _ (station : Station) (at : ℕ) (k rest : List ℕ) where
  keep-tells : (b : ℕ) → ByRule station (length k) b Inside (Keep b)
      → tell station (view Inside k) at (b ∷ rest) ≡ tell station (view Inside (k ++ (b ∷ []))) (at + 1) rest
  unfolding tell noted next outcome note
  keep-tells b rule = rw (← rule-only rule)

  pair-tells : (p : ℕ) → p ≤ 0x02 → Later station (length k) → length k < most_content
      → tell station (view Inside k) at (0xFF ∷ p ∷ rest) ≡ tell station (view Inside (k ++ ((0xFF - p) ∷ []))) (at + 2) rest
  unfolding tell noted next outcome note
  pair-tells p known l room =
      let two : at + 1 + 1 ≡ at + 2 = omega arith in
      let first : Wait ≡ turn station Inside (length k) 0xFF = rule-only (waits l refl) in
      let second : Keep (0xFF - p) ≡ turn station Pending (length k) p = rule-only (pair known room) in
      rw (← first, ← second, two)

-- ---- a content and its image

module _ (station : Station) (good : has_address station ≡ true) where
  byte-tells : (b : ℕ) (k c rest : List ℕ) (at : ℕ) → length k < most_content → AddressTaken station (k ++ (b ∷ c))
      → tell station (view Inside k) at (stuffed b ++ rest) ≡ tell station (view Inside (k ++ (b ∷ []))) (at + length (stuffed b)) rest
  byte-tells =
      by-stuffed
      (λ (b : ℕ) (l : List ℕ). (k c rest : List ℕ) (at : ℕ) → length k < most_content → AddressTaken station (k ++ (b ∷ c))
      → tell station (view Inside k) at (l ++ rest) ≡ tell station (view Inside (k ++ (b ∷ []))) (at + length l) rest)
      (λ k c rest at room taken. pair-tells station at k rest 0x02 (lit≤ tt) (later station good k 0xFD c taken refl) room)
      (λ k c rest at room taken. pair-tells station at k rest 0x01 (lit≤ tt) (later station good k 0xFE c taken refl) room)
      (λ k c rest at room taken. pair-tells station at k rest 0x00 (lit≤ tt) (later station good k 0xFF c taken refl) room)
      (λ b other k c rest at room taken. keep-tells station at k rest b (plain-kept station k b c taken other room))

  stuffing-tells : (c k rest : List ℕ) (at : ℕ) → length k + length c ≤ most_content → AddressTaken station (k ++ c)
      → tell station (view Inside k) at (stuffing c ++ rest) ≡ tell station (view Inside (k ++ c)) (at + length (stuffing c)) rest
  unfolding stuffing
  stuffing-tells [] k rest at fits taken =
      ap₂ (λ (l : List ℕ) (n : ℕ). tell station (view Inside l) n rest) (sym (append-nil k)) (sym (add-zero at))
  stuffing-tells (b ∷ bs) k rest at fits taken =
      let room : length (k ++ (b ∷ [])) + length bs ≤ most_content = simp length-append (omega arith) in
      let wire : at + length (stuffed b) + length (stuffing bs) ≡ at + length (stuffed b ++ stuffing bs) = simp length-append (omega arith) in
      ap (tell station (view Inside k) at) (append_assoc (stuffed b) (stuffing bs) rest)
      ∙ byte-tells b k bs (stuffing bs ++ rest) at (omega arith) taken
      ∙ stuffing-tells bs (k ++ (b ∷ [])) rest (at + length (stuffed b)) room (rw append_assoc taken)
      ∙ ap₂ (λ (l : List ℕ) (n : ℕ). tell station (view Inside l) n rest) (append_assoc k (b ∷ []) bs) wire

  start-tells : (v : View) (rest : List ℕ) (at : ℕ) → tell station v at (start ∷ rest) ≡ tell station (view Inside []) (at + 1) rest
  unfolding tell noted next outcome note turn
  start-tells v rest at = refl

  stop-tells : (c rest : List ℕ) (at : ℕ)
      → tell station (view Inside c) at (stop ∷ rest) ≡ noted station (view Inside c) (at + 1) Stop ++ tell station nowhere (at + 1) rest
  unfolding tell next turn within inside
  stop-tells c rest at = refl

  pub image-tells : (v : View) (c rest : List ℕ) (at : ℕ) → length c ≤ most_content → AddressTaken station c
      → tell station v at (image c ++ rest)
      ≡ noted station (view Inside c) (at + length (image c)) Stop ++ tell station nowhere (at + length (image c)) rest
  unfolding image
  image-tells v c rest at fits taken =
      let wire : at + 1 + length (stuffing c) + 1 ≡ at + length (start ∷ stuffing c ++ (stop ∷ [])) = simp length-append (omega arith) in
      ap (λ (l : List ℕ). tell station v at (start ∷ l)) (append_assoc (stuffing c) (stop ∷ []) rest)
      ∙ start-tells v (stuffing c ++ (stop ∷ rest)) at
      ∙ stuffing-tells c [] (stop ∷ rest) (at + 1) (omega arith) taken
      ∙ stop-tells c rest (at + 1 + length (stuffing c))
      ∙ ap (λ (n : ℕ). noted station (view Inside c) n Stop ++ tell station nowhere n rest) wire
