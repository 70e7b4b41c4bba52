-- `register::residue`: at each turn, to run the register over the bytes that are left gives what was asked for. What the table
-- has is one test, computed over the whole of it.
-- Assumes nothing.
use mathlib.Core.Path.{refl, sym, ap, ◌∙◌}
use Prim.Native.Nat.{ℕ, ◌+◌, ◌/◌, ◌%◌, ◌<◌}
use native.Mathlib.Omega.{arith}
use lib.Bits.{bit_xor, and_mask}
use lib.ListN.{get_or, drop, drop_of_length-le}
use Rattle.ground.proofs.Laws.Lists.{drop-next}
use Rattle.ground.proofs.Laws.Table.{WorkedOut, entry}
use Rattle.checks.specs.Fcs.{shift_step, shift_steps, byte_step, run, residue}
use Rattle.checks.specs.declared.table.TheConstants.{TABLE}
use Rattle.checks.proofs.register.residue.Goals as goal

-- the table's entries are the eight shift steps of their places
pub worked-out : WorkedOut (shift_steps 8) TABLE
unfolding shift_step shift_steps
worked-out = record { test = refl }

pub loop-byte-init : goal.loop-byte-init
unfolding residue
loop-byte-init c = refl

pub loop-byte-preserved : goal.loop-byte-preserved
unfolding byte_step run
loop-byte-preserved c =
    let s = c.args.bytes.now in
    let l = c.loop-byte in
    let met = bit_xor (get_or s l.byte-index 0) l.register in
    let h : met % 0x100 < 0x100 = omega arith in
    ap (λ (w : ℕ). run (bit_xor w (l.register / 0x100)) (drop (l.byte-index + 1) s))
    (entry (shift_steps 8) (met % 0x100) h worked-out ∙ ap (shift_steps 8) (sym (and_mask met 8)))
    ∙ rw (drop-next s l.byte-index c.loop-byte-test.true) at l.invariant

pub returns : goal.returns
unfolding run
returns c = rw (drop_of_length-le _ c.loop-byte-test.false) at c.loop-byte.invariant
