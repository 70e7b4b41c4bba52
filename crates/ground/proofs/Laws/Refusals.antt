-- A refusal is known by its number.
-- Assumes nothing.
use mathlib.Core.Path.{◌≡◌, refl, sym}
use mathlib.Core.List.{[], ◌∷◌}
use mathlib.Mathlib.Logic.Function.Defs.{LeftInverse-Injective}
use Prim.Native.Nat.{ℕ}
use lib.ListN.{get_or}
use Rattle.std.specs.Prelude.{Option, None, Some}
use Rattle.std.proofs.lemmas.Option.{none-some}
use Rattle.ground.specs.declared.refusal.Refusal.{Refusal}
use Rattle.ground.specs.declared.refusal.Refusal.TheVariants.{NoRoom, TooLong, BadAddress, BadState, BadRequest, WrongId, WrongCommand, WrongLength, WrongReason, TapeTooLong}
use Rattle.ground.specs.Refusals.{number, numbered}

-- the refusal with this number, if there is one
abbrev with_number : ℕ → Option Refusal
with_number n =
    get_or
    (None
    ∷ Some NoRoom
    ∷ Some TooLong
    ∷ Some BadAddress
    ∷ Some BadState
    ∷ Some BadRequest
    ∷ Some WrongId
    ∷ Some WrongCommand
    ∷ Some WrongLength
    ∷ Some WrongReason
    ∷ Some TapeTooLong
    ∷ []) n None

with-numbered : (why : Option Refusal) → with_number (numbered why) ≡ why
with-numbered None = refl
with-numbered (Some NoRoom) = refl
with-numbered (Some TooLong) = refl
with-numbered (Some BadAddress) = refl
with-numbered (Some BadState) = refl
with-numbered (Some BadRequest) = refl
with-numbered (Some WrongId) = refl
with-numbered (Some WrongCommand) = refl
with-numbered (Some WrongLength) = refl
with-numbered (Some WrongReason) = refl
with-numbered (Some TapeTooLong) = refl

pub number-injective : (a b : Option Refusal) → numbered a ≡ numbered b → a ≡ b
number-injective = LeftInverse-Injective with_number numbered with-numbered

-- and none has the number of no refusal
pub number-some : (why : Refusal) → number why ≡ 0 → ⊥
number-some why e = none-some why (number-injective None (Some why) (sym e))
