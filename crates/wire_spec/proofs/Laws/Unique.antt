-- A call's statement leaves no choice: two results that it allows are equal. docs/STATEMENTS.md cites one of these for each call.
-- Assumes nothing.
use mathlib.Core.Path.{◌≡◌, ap}
use mathlib.Core.List.{List}
use Prim.Native.Nat.{ℕ}
use Rattle.std.specs.Prelude.{Result}
use Rattle.ground.specs.declared.refusal.Refusal.{Refusal}
use Rattle.ground.proofs.Laws.Unique.{same, same-tally}
use Rattle.wire_spec.specs.Writing.{After, after}

-- of a call that answers a count or a refusal, and writes to a lent buffer
pub same_after : {r s : Result ℕ Refusal} {o p : List ℕ} {t : After} → after r o ≡ t → after s p ≡ t → (r ≡ s) × (o ≡ p)
same_after {r} {s} {o} {p} e f =
    let both : after r o ≡ after s p = same e f in
    (same-tally (ap (λ (a : After). a.tally) e) (ap (λ (a : After). a.tally) f), ap (λ (a : After). a.out) both)
