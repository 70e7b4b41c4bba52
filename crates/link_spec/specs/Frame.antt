-- The content of a frame on each line.
-- 01, Layout of a frame, the table; 001 and 000, 'Кадр запроса от компьютера считывателю' and 'Кадр
-- ответа считывателя компьютеру'. Assumes nothing.
use Rattle.std.specs.Prelude.{ℕ, List, ◌∷◌}
use Rattle.checks.specs.declared.kind.Check.TheVariants.{Fcs, Sum}
use Rattle.checks.specs.Check.{with_check}

-- identifier, command, data, FCS
unfoldable pub point_content : ℕ → ℕ → List ℕ → List ℕ
point_content identifier command «data» = with_check Fcs (identifier ∷ command ∷ «data»)

-- address, identifier, command, data, sum
unfoldable pub addressed_content : ℕ → ℕ → ℕ → List ℕ → List ℕ
addressed_content address identifier command «data» = with_check Sum (address ∷ identifier ∷ command ∷ «data»)
