-- Laws of the FCS: content with its FCS leaves F0B8 in the register, whatever the content.
-- Assumes nothing.
use mathlib.Core.Path.{◌≡◌, refl, ap, ap₂, ◌∙◌}
use mathlib.Core.List.{List, [], ◌∷◌, ◌++◌}
use Prim.Native.Nat.{ℕ, zero, suc, ◌*◌, ◌/◌, ◌%◌, ◌<◌}
use native.Mathlib.Omega.{arith}
use lib.Dec.{lit<}
use lib.Bits.{bit_and, bit_xor, and_mask, xor_lt, xor_shr, xor_mod, xor_zero_r}
use Rattle.checks.specs.Fcs.{shift_step, shift_steps, byte_step, run, residue, fcs, fcs_bytes, good_residue}
use Rattle.checks.proofs.Laws.Xor.{xor-twice, xor-between}

-- ---- the register keeps within sixteen bits

shift_step-lt : (w : ℕ) → w < 0x10000 → shift_step w < 0x10000
unfolding shift_step
shift_step-lt w h = xor_lt 16 (w / 2) (bit_and w 1 * 0x8408) (omega arith) (omega (arith, and_mask w 1))

shift_steps-lt : (n w : ℕ) → w < 0x10000 → shift_steps n w < 0x10000
unfolding shift_steps
shift_steps-lt zero w h = h
shift_steps-lt (suc n) w h = shift_steps-lt n (shift_step w) (shift_step-lt w h)

byte_step-lt : (register b : ℕ) → register < 0x10000 → byte_step register b < 0x10000
unfolding byte_step
byte_step-lt register b h =
    xor_lt 16 (shift_steps 8 (bit_and (bit_xor b register) 0xFF)) (register / 0x100)
    (shift_steps-lt 8 (bit_and (bit_xor b register) 0xFF) (omega (arith, and_mask (bit_xor b register) 8)))
    (omega arith)

run-lt : (register : ℕ) (bytes : List ℕ) → register < 0x10000 → run register bytes < 0x10000
unfolding run
run-lt register [] h = h
run-lt register (b ∷ bs) h = run-lt (byte_step register b) bs (byte_step-lt register b h)

pub residue-lt : (bytes : List ℕ) → residue bytes < 0x10000
unfolding residue
residue-lt bytes = run-lt 0xFFFF bytes (lit< tt)

-- so each of the two bytes of an FCS is a byte
pub fcs-lt : (bytes : List ℕ) → fcs bytes < 0x10000
unfolding fcs
fcs-lt bytes = xor_lt 16 (residue bytes) 0xFFFF (residue-lt bytes) (lit< tt)

-- they are the bytes of the number itself, the low one first
pub low_first : (bytes : List ℕ) (v : ℕ) → v ≡ fcs bytes → v % 0x100 ∷ v / 0x100 % 0x100 ∷ [] ≡ fcs_bytes bytes
unfolding fcs_bytes
low_first bytes v is =
    ap₂ (λ (low high : ℕ). low ∷ high ∷ []) (ap (λ (n : ℕ). n % 0x100) is) (omega (arith, fcs-lt bytes))

-- ---- F0B8

run-append : (register : ℕ) (s t : List ℕ) → run register (s ++ t) ≡ run (run register s) t
unfolding run
run-append register [] t = refl
run-append register (b ∷ s) t = run-append (byte_step register b) s t

-- the inverted low half meets the low half: all ones go through the shift steps
low_step : (v : ℕ) → byte_step v (bit_xor v 0xFFFF % 0x100) ≡ bit_xor (shift_steps 8 0xFF) (v / 0x100)
unfolding byte_step
low_step v =
    let low : bit_xor v 0xFFFF % 0x100 % 0x100 ≡ bit_xor (v % 0x100) 0xFF = omega (arith, xor_mod v 0xFFFF 8) in
    ap (λ (w : ℕ). bit_xor (shift_steps 8 w) (v / 0x100))
    (and_mask (bit_xor (bit_xor v 0xFFFF % 0x100) v) 8
    ∙ xor_mod (bit_xor v 0xFFFF % 0x100) v 8
    ∙ ap (λ (w : ℕ). bit_xor w (v % 0x100)) low
    ∙ xor-twice (v % 0x100) 0xFF)

-- the inverted high half meets what has come of it, and the register's own share goes out
high-step : (v k : ℕ) → v < 0x10000
    → byte_step (bit_xor k (v / 0x100)) (bit_xor v 0xFFFF / 0x100) ≡ bit_xor (shift_steps 8 (bit_and (bit_xor 0xFF k) 0xFF)) (k / 0x100)
unfolding byte_step
high-step v k h =
    ap₂ (λ (w u : ℕ). bit_xor (shift_steps 8 (bit_and w 0xFF)) u)
    (ap (λ (w : ℕ). bit_xor w (bit_xor k (v / 0x100))) (xor_shr v 0xFFFF 8) ∙ xor-between (v / 0x100) 0xFF k)
    (xor_shr k (v / 0x100) 8 ∙ ap (bit_xor (k / 0x100)) (omega arith) ∙ xor_zero_r (k / 0x100))

constant : bit_xor (shift_steps 8 (bit_and (bit_xor 0xFF (shift_steps 8 0xFF)) 0xFF)) (shift_steps 8 0xFF / 0x100) ≡ good_residue
unfolding shift_step shift_steps
constant = refl

pub good-residue : (front : List ℕ) → residue (front ++ fcs_bytes front) ≡ good_residue
unfolding run residue fcs fcs_bytes
good-residue front =
    let v = residue front in
    run-append 0xFFFF front (fcs_bytes front)
    ∙ ap (λ (w : ℕ). byte_step w (bit_xor v 0xFFFF / 0x100)) (low_step v)
    ∙ high-step v (shift_steps 8 0xFF) (residue-lt front)
    ∙ constant
