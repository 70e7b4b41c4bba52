-- `total::sum`: at each turn, the total so far and that of the bytes that are left make the total of all bytes, modulo 256.
-- Assumes nothing.
use mathlib.Core.Path.{◌≡◌}
use Prim.Native.Nat.{◌+◌, ◌%◌}
use lib.ListN.{drop}
use Rattle.checks.specs.Sum.{total}
use Rattle.checks.proofs.total.sum.Given as goal

abbrev pub invariant-loop-byte : goal.invariant-loop-byte
invariant-loop-byte l =
    (l.total + total (drop l.byte-index l.bytes)) % 0x100 ≡ total l.bytes % 0x100
