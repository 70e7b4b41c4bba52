-- Bytes laid into a buffer over what stood there.
-- 01, Refusal numbers: a call of ours, refused with the number of row 1 (docs/DECISIONS.md, ground). Assumes nothing.
use Rattle.std.specs.Prelude.{ℕ, ◌+◌, ◌-◌, cond, List, ◌++◌, ltb, length, take, drop, Result, Ok, Err}
use Rattle.ground.specs.declared.refusal.Refusal.{Refusal}
use Rattle.ground.specs.declared.refusal.Refusal.TheVariants.{NoRoom}
use Rattle.ground.specs.Refusals.{number}

-- the buffer with `bytes` from the place `at` on; what stands before and after them stays
unfoldable pub laid : List ℕ → ℕ → List ℕ → List ℕ
laid buffer at bytes = take at buffer ++ (bytes ++ drop (at + length bytes) buffer)

-- where bytes that were put end, in the paper's numbers, and the contents of the lent buffer as the call returns
pub record Ended : Type 0 where
  pub refusal : ℕ
  pub end : ℕ
  pub out : List ℕ

-- what a call's result says that was to put bytes from the place `at` on, and what it left; refused, it ends where it was to begin
abbrev pub ended : ℕ → Result ℕ Refusal → List ℕ → Ended
ended at (Ok end) out = record { refusal = 0; end = end; out = out }
ended at (Err why) out = record { refusal = number why; end = at; out = out }

-- a refused call leaves the buffer as before
abbrev pub unplaced : Refusal → List ℕ → ℕ → Ended
unplaced why out at = record { refusal = number why; end = at; out = out }

abbrev pub placed : List ℕ → List ℕ → ℕ → Ended
placed bytes out at = record { refusal = 0; end = at + length bytes; out = laid out at bytes }

-- fewer places from `at` on than bytes is NoRoom
unfoldable pub put : List ℕ → List ℕ → ℕ → Ended
put bytes out at = cond (ltb (length out - at) (length bytes)) (unplaced NoRoom out at) (placed bytes out at)

-- bytes at the front of a buffer over what stood there; later bytes stay
abbrev pub onto : List ℕ → List ℕ → List ℕ
onto bytes buffer = bytes ++ drop (length bytes) buffer
