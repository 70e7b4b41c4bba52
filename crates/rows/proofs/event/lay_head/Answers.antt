-- `event::lay_head`: each part is put after those before it, and there are places for the longest head, so none is refused.
-- Assumes nothing.
use mathlib.Core.List.{◌++◌}
use Prim.Native.Nat.{ℕ, ◌≤◌, zero-le}
use native.Mathlib.Omega.{arith}
use lib.ListN.{length, length-append}
use Rattle.std.specs.Prelude.{Some}
use Rattle.ground.proofs.Laws.Laying.{last, then, puts-some, puts-whole}
use Rattle.link_spec.specs.Events.{Name, named}
use Rattle.text.specs.Decimal.{decimal}
use Rattle.tape_spec.specs.declared.tape.Line.{Line}
use Rattle.tape_spec.specs.Limits.{most_records}
use Rattle.tape_spec.specs.Rows.{letter, name_of}
use Rattle.rows.specs.Heads.{most_head, head_of}
use Rattle.rows.proofs.Laws.Heads.{head-within}
use Rattle.rows.proofs.event.lay_head.Goals as goal

-- the number and the letter have room, since the whole head has
parts-within : (n : ℕ) (line : Line) (event : Name) → n ≤ most_records
    → (length (decimal n) ≤ most_head) × (length (decimal n ++ letter line) ≤ most_head) × (length (head_of n line event) ≤ most_head)
parts-within n line event few =
    let head = head-within n line event few in
    let d = length-append (decimal n) (letter line ++ name_of event) in
    let l = length-append (letter line) (name_of event) in
    (omega (arith, head, d), omega (arith, head, d, l, length-append (decimal n) (letter line)), head)

pub returns-in_err-counted : goal.returns-in_err-counted
returns-in_err-counted c =
    let a = c.args in
    let fits = parts-within a.number a.line (named (Some a.event)) (omega (arith, c.ranges)) in
    absurd (puts-some c.in_err-counted.field-0.0 (last c.in_err-counted.ensures) zero-le (omega (arith, fits)))

pub returns-in_err-lettered : goal.returns-in_err-lettered
returns-in_err-lettered c =
    let a = c.args in
    let fits = parts-within a.number a.line (named (Some a.event)) (omega (arith, c.ranges)) in
    absurd (puts-some c.in_err-lettered.field-0.0 (then _ _ c.in_ok-counted.ensures (last (rw c.letter.ensures at c.in_err-lettered.ensures))) zero-le
    (omega (arith, fits)))

pub returns : goal.returns
returns c =
    let a = c.args in
    let fits = parts-within a.number a.line (named (Some a.event)) (omega (arith, c.ranges)) in
    puts-whole c.in_ok-lettered.lettered c.put-2.result c.put-2.new.out
    (then _ _ c.in_ok-counted.ensures
    (then _ _ (rw c.letter.ensures at c.in_ok-lettered.ensures)
    (last (rw c.name.ensures at c.put-2.ensures)))) zero-le (omega (arith, fits))
