-- `register::residue`: at each turn, to run the register over the bytes that are left gives what was asked for.
-- Assumes nothing.
use mathlib.Core.Path.{◌≡◌}
use lib.ListN.{drop}
use Rattle.checks.specs.Fcs.{run, residue}
use Rattle.checks.proofs.register.residue.Given as goal

abbrev pub invariant-loop-byte : goal.invariant-loop-byte
invariant-loop-byte l =
    run l.register (drop l.byte-index l.bytes) ≡ residue l.bytes
