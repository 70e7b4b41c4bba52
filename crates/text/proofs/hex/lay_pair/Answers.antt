-- `hex::lay_pair`: two digits stored one after the other are laid as one pair.
-- Assumes nothing.
use mathlib.Core.Path.{ap₂, ◌∙◌}
use mathlib.Core.List.{[], ◌∷◌}
use Prim.Native.Nat.{ℕ}
use native.Mathlib.Omega.{arith}
use Rattle.ground.specs.Laying.{laid}
use Rattle.ground.proofs.Laws.Laying.{set-two}
use Rattle.text.proofs.hex.lay_pair.Goals as goal

pub returns : goal.returns
returns c =
    let a = c.args in
    set-two a.out.now a.at c.digit.result c.digit-2.result (omega arith)
    ∙ ap₂ (λ (x y : ℕ). laid a.out.now a.at (x ∷ y ∷ [])) c.digit.ensures c.digit-2.ensures
