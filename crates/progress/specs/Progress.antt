-- How far an input is read, and when a notice of that is due: first when more than two seconds have passed, then at most once a second.
-- Times are what a clock shows that counts whole seconds, so more than two have passed for sure where two of them differ by three.
-- docs/DECISIONS.md says why. Assumes nothing.
use Rattle.std.specs.Prelude.{ℕ, ◌+◌, min, Bool, true, false, ◌&&◌, leb, ℤ, pos, negsuc}
use Rattle.progress.specs.declared.progress.Progress.{Progress}

-- the largest number of 64 bits
abbrev pub most : ℕ
most = 0xFFFFFFFFFFFFFFFF

-- a sum that is over the largest number is the largest
unfoldable pub capped : ℕ → ℕ → ℕ
capped a b = min (a + b) most

-- the first notice is due when the clock shows three seconds more
abbrev pub fresh_progress : Bool → ℕ → Progress
fresh_progress wanted clock = record { wanted = wanted; shown = false; read = 0; due = capped clock 3 }

abbrev pub after_block : Progress → ℕ → Progress
after_block p count = record { wanted = p.wanted; shown = p.shown; read = capped p.read count; due = p.due }

-- never where no notice is wanted
abbrev pub is_due : Progress → ℕ → Bool
is_due p clock = p.wanted && leb p.due clock

-- and the next when it shows one more
abbrev pub after_notice : Progress → ℕ → Progress
after_notice p clock = record { wanted = p.wanted; shown = true; read = p.read; due = capped clock 1 }

-- the time, of the whole seconds that a clock answers; 0 where that is below zero
abbrev pub seconds : ℤ → ℕ
seconds (pos n) = n
seconds (negsuc n) = 0
