-- `put_row`: what is put into the row ends within it.
use mathlib.Core.Path.{◌≡◌}
use mathlib.Core.List.{List}
use Prim.Native.Nat.{ℕ, ◌≤◌, zero-le}
use native.Mathlib.Omega.{arith}
use lib.ListN.{length}
use Rattle.std.specs.Prelude.{Result, Ok, Err, IfOk}
use Rattle.ground.specs.declared.refusal.Refusal.{Refusal}
use Rattle.ground.specs.Laying.{ended, put}
use Rattle.ground.proofs.Laws.Laying.{put-ends}
use Rattle.example.proofs.put_row.Goals as goal

ends : (bytes out : List ℕ) (at : ℕ) (r : Result ℕ Refusal) (o : List ℕ) → ended at r o ≡ put bytes out at → at ≤ length out → length o ≡ length out
    → IfOk r (λ end. end ≤ length o)
ends bytes out at (Ok end) o says begins same = let within = put-ends bytes out at says begins in omega arith
ends bytes out at (Err why) o says begins same = tt

pub returns : goal.returns
returns c =
    let begins = put-ends _ _ _ c.in_ok-end.ensures zero-le in
    ends _ _ _ c.put.result c.put.new.out c.put.ensures (omega (arith, begins, c.put_pairs.auto.out)) (omega (arith, c.put.auto.out, c.put_pairs.auto.out))
