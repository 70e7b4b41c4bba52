-- The claim that each row of a table holds. Assumes nothing.
use Rattle.std.specs.Prelude.{List, [], ◌∷◌}

infixr 67 ◌and◌
pub data Each {A : Type 0} (Holds : A → Type 0) : List A → Type 0 where
  none : Each Holds []
  ◌and◌ : {row : A} {rows : List A} → Holds row → Each Holds rows → Each Holds (row ∷ rows)
