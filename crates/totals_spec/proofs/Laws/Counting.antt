-- A line's bytes counted: cuts do not matter, and no sum outgrows the bytes.
-- Assumes nothing.
use mathlib.Core.Path.{◌≡◌, refl, ap}
use mathlib.Core.Bool.{false, cond, ◌||◌}
use mathlib.Core.List.{List, [], ◌∷◌, ◌++◌}
use Prim.Native.Nat.{ℕ, ◌+◌, ◌*◌, ◌≤◌, zero-le}
use native.Mathlib.Nat.{add-zero}
use native.Mathlib.Omega.{arith}
use borrow.Author.Tests.{le-ltb, ltb-false}
use lib.Dec.{ltb}
use lib.ListN.{length, length-take}
use Rattle.ground.proofs.Laws.Choice.{or-none}
use Rattle.checks.specs.Check.{check_length}
use Rattle.wire_spec.specs.Limits.{most_content, most_image}
use Rattle.wire_spec.proofs.Laws.Image.{most-image}
use Rattle.link_spec.specs.declared.receiver.Receiver.{Receiver}
use Rattle.link_spec.specs.Events.{Name, NONE, FRAME, CHECK, SHORT, LONG, PAIR, ADDR}
use Rattle.link_spec.specs.Station.{check_on, checked}
use Rattle.link_spec.specs.Receiving.{bad_receiver, received}
use Rattle.link_spec.proofs.Laws.Receiving.{stays-good}
use Rattle.link_spec.proofs.Laws.Carried.{frame-carries}
use Rattle.tape_spec.specs.declared.tape.Line.{Line}
use Rattle.tape_spec.specs.declared.tape.Line.TheVariants.{Point, Addressed}
use Rattle.tape_spec.specs.Rows.{carried}
use Rattle.tape_spec.specs.Whole.{Record, heard_on}
use Rattle.tape_spec.specs.Frames.{bytes_on}
use Rattle.totals_spec.specs.declared.totals.Sums.{Sums}
use Rattle.totals_spec.specs.Whole.{is_frame, image_bytes, reserved_bytes}
use Rattle.totals_spec.specs.Adding.{Account, account, with_bytes, with_frame, with_said, after_bytes, bad_sums}

-- ---- cuts

pub after-append : (a b : List ℕ) (x : Account) → after_bytes x (a ++ b) ≡ after_bytes (after_bytes x a) b
unfolding after_bytes
after-append [] b x = refl
after-append (c ∷ a) b x =
    let said = received x.receiver (c ∷ []) in
    after-append a b (account said.receiver (with_said x.receiver.station said (with_bytes 1 x.sums)))

pub bytes-append : (line : Line) (a b : List Record) → bytes_on line (a ++ b) ≡ bytes_on line a ++ bytes_on line b
unfolding bytes_on
bytes-append line [] b = refl
bytes-append Point (heard_on Point x ∷ a) b = ap (λ (l : List ℕ). x ∷ l) (bytes-append Point a b)
bytes-append Point (heard_on Addressed x ∷ a) b = bytes-append Point a b
bytes-append Addressed (heard_on Point x ∷ a) b = bytes-append Addressed a b
bytes-append Addressed (heard_on Addressed x ∷ a) b = ap (λ (l : List ℕ). x ∷ l) (bytes-append Addressed a b)

pub bytes-few : (line : Line) (rs : List Record) → length (bytes_on line rs) ≤ length rs
unfolding bytes_on
bytes-few line [] = zero-le
bytes-few Point (heard_on Point x ∷ rs) = let h = bytes-few Point rs in omega arith
bytes-few Point (heard_on Addressed x ∷ rs) = let h = bytes-few Point rs in omega arith
bytes-few Addressed (heard_on Point x ∷ rs) = let h = bytes-few Addressed rs in omega arith
bytes-few Addressed (heard_on Addressed x ∷ rs) = let h = bytes-few Addressed rs in omega arith

-- ---- the receiver

pub after-good : (bs : List ℕ) (x : Account) → bad_receiver x.receiver ≡ false → bad_receiver (after_bytes x bs).receiver ≡ false
unfolding after_bytes
after-good [] x good = good
after-good (b ∷ bs) x good =
    let said = received x.receiver (b ∷ []) in
    after-good bs (account said.receiver (with_said x.receiver.station said (with_bytes 1 x.sums)))
    (stays-good x.receiver (b ∷ []) good)

-- ---- no sum outgrows the bytes

-- sums that so many records can give
pub record SumsWithin (n : ℕ) (s : Sums) : Type 0 where
  pub frames : s.frames ≤ n
  pub heard : s.heard ≤ n
  pub inside : s.inside ≤ most_image * n
  pub reserved : s.reserved ≤ most_image * n

pub sums-within : (n : ℕ) (s : Sums) → bad_sums n s ≡ false → SumsWithin n s
sums-within n s fine =
    let i = ltb (most_image * n) s.inside in
    let r = ltb (most_image * n) s.reserved in
    let a = or-none (ltb n s.frames) (ltb n s.heard || (i || r)) fine in
    let b = or-none (ltb n s.heard) (i || r) a.1 in
    let c = or-none i r b.1 in
    record {
      frames = ltb-false n s.frames a.0;
      heard = ltb-false n s.heard b.0;
      inside = ltb-false (most_image * n) s.inside c.0;
      reserved = ltb-false (most_image * n) s.reserved c.1;
    }

pub within-fine : (n : ℕ) (s : Sums) → SumsWithin n s → bad_sums n s ≡ false
within-fine n s w =
    rw (
      le-ltb n s.frames w.frames,
      le-ltb n s.heard w.heard,
      le-ltb (most_image * n) s.inside w.inside,
      le-ltb (most_image * n) s.reserved w.reserved,
    ) refl

pub within_more : {n m : ℕ} {s : Sums} → n ≤ m → SumsWithin n s → SumsWithin m s
within_more h w =
    record {
      frames = omega (arith, w.frames);
      heard = omega (arith, w.heard);
      inside = omega (arith, w.inside);
      reserved = omega (arith, w.reserved);
    }

-- a frame's image and what is reserved for it are within the longest image
pub frame-within : (s : Receiver) (piece : List ℕ) → bad_receiver s ≡ false → FRAME ≡ (received s piece).event
    → let front = carried (received s piece) in
    (image_bytes s.station front ≤ most_image) × (reserved_bytes s.station front ≤ most_image)
frame-within s piece good frame =
    let said = received s piece in
    let c = frame-carries s piece good frame in
    let n = said.length + check_length (check_on s.station) in
    let whole = checked s.station (carried said) in
    let short : length whole ≤ most_content = omega (arith, ap length c.whole, length-take n said.content, c.most) in
    (omega (arith, most-image whole), omega arith)

-- which event is a FRAME
by-event : (P : Name → Type 0) (e : Name) → (FRAME ≡ e → P FRAME) → (is_frame e ≡ false → P e) → P e
by-event P NONE frame other = other refl
by-event P FRAME frame other = frame refl
by-event P CHECK frame other = other refl
by-event P SHORT frame other = other refl
by-event P LONG frame other = other refl
by-event P PAIR frame other = other refl
by-event P ADDR frame other = other refl

-- a call of the receiver that takes some bytes
pub said-within : (s : Receiver) (piece : List ℕ) (n k : ℕ) (sums : Sums) → bad_receiver s ≡ false → 1 ≤ k → SumsWithin n sums
    → SumsWithin (n + k) (with_said s.station (received s piece) (with_bytes k sums))
said-within s piece n k sums good some w =
    by-event (λ (e : Name). e ≡ (received s piece).event → SumsWithin (n + k) (cond (is_frame e) (with_frame s.station (carried (received s piece)) (with_bytes k sums)) (with_bytes k sums)))
    (received s piece).event (λ f e. let b = frame-within s piece good e in
    record {
      frames = omega (arith, w.frames);
      heard = omega (arith, w.heard);
      inside = omega (arith, w.inside, b.0);
      reserved = omega (arith, w.reserved, b.1);
    })
    (λ f e. rw f (record {
      frames = omega (arith, w.frames);
      heard = omega (arith, w.heard);
      inside = omega (arith, w.inside);
      reserved = omega (arith, w.reserved);
    })) refl

pub after-within : (bs : List ℕ) (n : ℕ) (x : Account) → bad_receiver x.receiver ≡ false → SumsWithin n x.sums
    → SumsWithin (n + length bs) (after_bytes x bs).sums
unfolding after_bytes
after-within [] n x good w = rw (add-zero n) w
after-within (b ∷ bs) n x good w =
    let s = x.receiver in
    let said = received s (b ∷ []) in
    let far : n + 1 + length bs ≡ n + length (b ∷ bs) = omega arith in
    rw far at (after-within bs (n + 1) (account said.receiver (with_said s.station said (with_bytes 1 x.sums)))
    (stays-good s (b ∷ []) good) (said-within s (b ∷ []) n 1 x.sums good (omega arith) w))
