-- How far an input is read, as told to a terminal. Whether there is one and what the clock shows is answered by the operating system, and no
-- statement fixes it; all else follows from what `progress` says. Assumes nothing.
use Rattle.std.specs.Prelude.{◌≡◌, Bool, cond, ◌&&◌, ℕ}
use Rattle.progress.specs.declared.progress.Progress.{Progress}
use Rattle.progress.specs.Progress.{fresh_progress, after_block, is_due, after_notice}

-- notices are wanted, and standard error is a terminal or not
pub record Begun (wanted : Bool) (r : Progress) : Type 0 where
  pub is_terminal : Bool
  pub clock : ℕ
  pub answers : r ≡ fresh_progress (wanted && is_terminal) clock

-- a notice is shown where it is due with these bytes read
abbrev pub after_show : Progress → ℕ → Progress
after_show p clock = cond (is_due p clock) (after_notice p clock) p

-- bytes more are read; where no notice is wanted they are not counted
pub record Shown (p : Progress) (count : ℕ) (r : Progress) : Type 0 where
  pub clock : ℕ
  pub answers : r ≡ cond p.wanted (after_show (after_block p count) clock) p
