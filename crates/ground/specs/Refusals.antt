-- The refusals with their numbers, an answer that counts bytes in these numbers, and what a refused call leaves. 01, Refusal numbers, the
-- table and below it; 02, L1 for number 10. Assumes nothing.
use Rattle.std.specs.Prelude.{ℕ, ◌≡◌, Option, None, Some, Result, Ok, Err}
use Rattle.ground.specs.declared.refusal.Refusal.{Refusal}
use Rattle.ground.specs.declared.refusal.Refusal.TheVariants.{NoRoom, TooLong, BadAddress, BadState, BadRequest, WrongId, WrongCommand, WrongLength, WrongReason, TapeTooLong}

abbrev pub number : Refusal → ℕ
number NoRoom = 1
number TooLong = 2
number BadAddress = 3
number BadState = 4
number BadRequest = 5
number WrongId = 6
number WrongCommand = 7
number WrongLength = 8
number WrongReason = 9
number TapeTooLong = 10

-- 0 is no refusal
abbrev pub numbered : Option Refusal → ℕ
numbered None = 0
numbered (Some why) = number why

pub record Tally : Type 0 where
  pub refusal : ℕ
  pub count : ℕ

-- what a call's result says
abbrev pub tally : Result ℕ Refusal → Tally
tally (Ok n) = record { refusal = 0; count = n }
tally (Err why) = record { refusal = number why; count = 0 }

-- a refused call returns the number and count 0
abbrev pub refused : Refusal → Tally
refused why = record { refusal = number why; count = 0 }

abbrev pub counted : ℕ → Tally
counted n = record { refusal = 0; count = n }

-- 01, below the table: where a call refused, what it was given is as before
abbrev pub Keeps : {A : Type 0} → ℕ → A → A → Type 0
Keeps refusal before after = (refusal ≡ 0 → ⊥) → after ≡ before

-- and its answer is this: a count of 0, no event, an empty part
abbrev pub AnswersOnly : {A : Type 0} → ℕ → A → A → Type 0
AnswersOnly refusal nothing answer = (refusal ≡ 0 → ⊥) → answer ≡ nothing
