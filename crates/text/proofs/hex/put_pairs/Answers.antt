-- `hex::put_pairs`: where there is no byte a dash is put; the pairs of n bytes take 3 n - 1 places, and the test says whether these are there.
-- Assumes nothing.
use mathlib.Core.Path.{sym, ap, ◌∙◌}
use mathlib.Core.List.{List}
use Prim.Native.Nat.{ℕ}
use native.Mathlib.Omega.{arith}
use Rattle.ground.specs.Laying.{laid, put}
use Rattle.ground.proofs.Laws.Laying.{put_refused, put-placed, placed-is}
use Rattle.text.specs.Hex.{pairs}
use Rattle.text.proofs.Laws.Hex.{length_pairs, pairs-none}
use Rattle.text.proofs.hex.put_pairs.Goals as goal

pub returns-in_default : goal.returns-in_default
returns-in_default c =
    let a = c.args in
    c.put.ensures ∙ ap (λ (l : List ℕ). put l a.out.now a.at) (sym (pairs-none a.bytes.now c.in_default.ensures.cases))

pub returns-then-bytes-room : goal.returns-then-bytes-room
returns-then-bytes-room c =
    let a = c.args in
    let e = length_pairs a.bytes.now (omega arith) in
    sym (put_refused (pairs a.bytes.now) a.out.now a.at (omega arith))

pub returns : goal.returns
returns c =
    let a = c.args in
    let n = c.in-Some.ensures.cases.1 in
    let e = length_pairs a.bytes.now (omega arith) in
    placed-is (pairs a.bytes.now) a.out.now a.at (omega arith)
    (c.lay_pairs.ensures.1 ∙ ap (λ (l : List ℕ). laid a.out.now a.at (pairs l)) (sym c.in-Some.ensures.cases.0))
    ∙ sym (put-placed (pairs a.bytes.now) a.out.now a.at (omega arith))
