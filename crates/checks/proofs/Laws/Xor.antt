-- Two laws of the exclusive or that the FCS laws need: a number met twice goes out.
-- Assumes nothing.
use mathlib.Core.Path.{◌≡◌, sym, ap, ◌∙◌}
use Prim.Native.Nat.{ℕ}
use lib.Bits.{bit_xor, xor_assoc, xor_zero_r, xor_comm, xor_self}

pub xor-twice : (x y : ℕ) → bit_xor (bit_xor x y) x ≡ y
xor-twice x y = rw (xor_comm x y, xor_assoc, xor_self, xor_zero_r)

pub xor-between : (x y z : ℕ) → bit_xor (bit_xor x y) (bit_xor z x) ≡ bit_xor y z
xor-between x y z = ap (bit_xor (bit_xor x y)) (xor_comm z x) ∙ sym (xor_assoc (bit_xor x y) x z) ∙ ap (λ (n : ℕ). bit_xor n z) (xor-twice x y)
