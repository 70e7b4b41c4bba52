-- Stuffing: how content travels so that FD and FE stand in a frame only as its start and its stop.
-- 01, Layout of a frame; 000 and 001, 'Байтстаффинг'. Assumes nothing.
use Rattle.std.specs.Prelude.{ℕ, ◌+◌, ◌-◌, Bool, true, false, cond, ◌||◌, List, [], ◌∷◌, ◌++◌, eqb, leb}
use Rattle.std.proofs.Math.Option.{Option, none, some, map}

-- FD becomes FF 02, FE becomes FF 01, FF becomes FF 00, every other byte stands for itself
unfoldable pub stuffed : ℕ → List ℕ
stuffed b =
    cond (eqb b 0xFD) (0xFF ∷ 0x02 ∷ [])
    (cond (eqb b 0xFE) (0xFF ∷ 0x01 ∷ [])
    (cond (eqb b 0xFF) (0xFF ∷ 0x00 ∷ []) (b ∷ [])))

-- a content, byte for byte
unfoldable pub stuffing : List ℕ → List ℕ
stuffing [] = []
stuffing (b ∷ bs) = stuffed b ++ stuffing bs

-- FD, FE or FF, which travel as two bytes
abbrev pub special : ℕ → Bool
special b = eqb b 0xFD || eqb b 0xFE || eqb b 0xFF

-- how many of them a content has
unfoldable pub specials : List ℕ → ℕ
specials [] = 0
specials (b ∷ bs) = cond (special b) 1 0 + specials bs

-- Stuffing undone; the test says whether an FF waits for its partner. 00, 01 and 02 give FF, FE and FD (01, How the receiver
-- moves, rule 3). Another partner or none, and a bare FD or FE, is no content.
unfoldable pub undo : Bool → List ℕ → Option (List ℕ)
undo false [] = some []
undo false (b ∷ bs) =
    let pair = undo true bs in
    let plain = cond (special b) none (map (λ c. b ∷ c) (undo false bs)) in
    cond (eqb b 0xFF) pair plain
undo true [] = none
undo true (p ∷ bs) =
    let known = map (λ c. (0xFF - p) ∷ c) (undo false bs) in
    cond (leb p 0x02) known none

-- from the first byte on nothing waits
unfoldable pub unstuffing : List ℕ → Option (List ℕ)
unstuffing wire = undo false wire
