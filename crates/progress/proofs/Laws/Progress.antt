-- When a notice is due and when not, by a clock that is not at its end; and what is read never falls.
-- Assumes nothing.
use mathlib.Core.Path.{◌≡◌, refl}
use mathlib.Core.Bool.{Bool, true, false, and-false}
use Prim.Native.Nat.{ℕ, ◌+◌, ◌≤◌, ◌<◌}
use native.Mathlib.Nat.{min-eq_left, le-min}
use native.Mathlib.Omega.{arith}
use borrow.Author.Tests.{le-leb, lt-leb}
use lib.IntN.{pos}
use Rattle.progress.specs.declared.progress.Progress.{Progress}
use Rattle.progress.specs.Progress.{most, capped, fresh_progress, after_block, is_due, after_notice, seconds}

capped_is : (a b : ℕ) → a + b ≤ most → capped a b ≡ a + b
unfolding capped
capped_is a b h = min-eq_left h

module _ (clock later : ℕ) where
  -- nothing is shown in the first two seconds, and a notice is due after them
  pub first-waits : (wanted : Bool) → clock + 3 ≤ most → later ≤ clock + 2 → is_due (fresh_progress wanted clock) later ≡ false
  first-waits wanted h early = rw (capped_is clock 3 h, lt-leb (clock + 3) later (omega arith)) (and-false wanted)

  pub first-due : clock + 3 ≤ most → clock + 2 < later → is_due (fresh_progress true clock) later ≡ true
  first-due h late = rw (capped_is clock 3 h, le-leb (clock + 3) later (omega arith))

  -- nor twice in one second, and one is due in the next
  pub next-waits : (p : Progress) → clock < most → later ≤ clock → is_due (after_notice p clock) later ≡ false
  next-waits p h early = rw (capped_is clock 1 (omega arith), lt-leb (clock + 1) later (omega arith)) (and-false p.wanted)

  pub next-due : (p : Progress) → clock < most → p.wanted ≡ true → clock < later → is_due (after_notice p clock) later ≡ true
  next-due p h on late = rw (on, capped_is clock 1 (omega arith), le-leb (clock + 1) later (omega arith))

-- where none is wanted, none is due
pub never-due : (p : Progress) (clock : ℕ) → p.wanted ≡ false → is_due p clock ≡ false
never-due p clock off = rw off

-- the sum of what was read is right while it fits 64 bits, and it never falls
pub read-sum : (p : Progress) (count : ℕ) → p.read + count ≤ most → (after_block p count).read ≡ p.read + count
read-sum p count fits = capped_is p.read count fits

pub read-grows : (p : Progress) (count : ℕ) → p.read ≤ most → p.read ≤ (after_block p count).read
unfolding capped
read-grows p count h = le-min (omega arith) h

-- an answer that is no failure is the time
pub seconds-pos : (n : ℕ) → seconds (pos n) ≡ n
seconds-pos n = refl
