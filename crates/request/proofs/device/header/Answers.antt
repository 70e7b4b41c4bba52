-- `device::header`: the name and the five numbers are laid one after the other, each where the one before it ends, and fill the array.
-- Assumes nothing.
use mathlib.Core.Path.{refl, ap}
use mathlib.Core.List.{List, ◌++◌}
use Prim.Native.Nat.{ℕ}
use lib.ListN.{replicate, drop}
use Rattle.request_spec.specs.Limits.{header_length, name_length}
use borrow.Author.Rules.{rules}
use Rattle.request_spec.proofs.Laws.Header.{header-laid}
use Rattle.request.proofs.device.header.Goals as goal

pub returns : goal.returns
returns c =
    let a = c.args in
    header-laid (replicate header_length 0) a.name a.kind a.version a.protocol a.serial a.flags (search rules) refl
    (ap (λ (l : List ℕ). l ++ drop name_length (replicate header_length 0)) c.copy_from_slice.ensures.after) c.lay_number.ensures
    c.lay_number-2.ensures c.lay_number-3.ensures c.lay_number-4.ensures c.lay_number-5.ensures
