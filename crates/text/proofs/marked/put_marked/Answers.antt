-- `marked::put_marked`: what stands from the mark on is the mark and the digits.
-- Assumes nothing.
use mathlib.Core.Path.{◌≡◌, sym, ap, subst⁻¹, ◌∙◌}
use mathlib.Core.List.{List, [], ◌∷◌, ◌++◌, append-nil}
use Prim.Native.Nat.{ℕ, ◌-◌, ◌≤◌}
use native.Mathlib.Omega.{arith}
use lib.ListN.{length, take, drop, set, length-drop}
use lib.Seq.{take_all}
use Rattle.ground.specs.Laying.{put as put_of}
use Rattle.ground.proofs.Laws.Lists.{drop-set}
use Rattle.text.specs.Decimal.{most_digits}
use Rattle.text.proofs.marked.put_marked.Goals as goal

-- the digits stand in all places but the first, and the mark in the one before them
marked : (mark from start : ℕ) (row : List ℕ) {digits : List ℕ} → start ≡ from → from ≤ most_digits → length row ≡ most_digits → drop from row ≡ digits
    → take (21 - start) (drop start (set (0 ∷ (row ++ [])) from mark)) ≡ mark ∷ digits
marked mark from start row {digits} same within sized are =
    let bare = append-nil row in
    let all : length (row ++ []) ≡ most_digits = ap length bare ∙ sized in
    let rest : drop from (row ++ []) ≡ digits = ap (drop from) bare ∙ are in
    let stands : drop from (set (0 ∷ (row ++ [])) from mark) ≡ mark ∷ digits =
    drop-set (0 ∷ (row ++ [])) from mark (omega (arith, all, within)) ∙ ap (λ (l : List ℕ). mark ∷ l) rest in
    let long : length digits ≡ most_digits - from = ap length (sym are) ∙ length-drop from row ∙ ap (λ (n : ℕ). n - from) sized in
    subst⁻¹ (λ (k : ℕ). take (21 - k) (drop k (set (0 ∷ (row ++ [])) from mark)) ≡ mark ∷ digits) same
    (ap (take (21 - from)) stands ∙ take_all (21 - from) (mark ∷ digits) (omega (arith, long, within)))

pub returns : goal.returns
returns c =
    let a = c.args in
    let laid = c.lay_digits-from in
    c.put.ensures
    ∙ ap (λ (l : List ℕ). put_of l a.out.now a.at)
    (marked a.mark laid.result _ _ (omega arith) laid.ensures.within laid.auto.text laid.ensures.digits)
