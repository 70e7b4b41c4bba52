-- `event::put_row`: the tests say whether the row's head and its tail have room; where they have, no part is refused, and each is put after the
-- one before it.
-- Assumes nothing.
use mathlib.Core.Path.{◌≡◌, sym, ap, ◌∙◌}
use mathlib.Core.List.{List, ◌++◌}
use Prim.Native.Nat.{ℕ, ◌+◌, ◌-◌, ◌/◌, ◌≤◌, zero-le}
use native.Mathlib.Omega.{arith}
use lib.ListN.{length, take, replicate, length-append}
use lib.Seq.{length-take-le}
use Rattle.std.specs.Prelude.{Some}
use Rattle.ground.specs.Laying.{Ended, put}
use Rattle.ground.proofs.Laws.Laying.{last, then, puts-some, puts-whole, put_refused, put-placed, take-placed}
use Rattle.link_spec.specs.Events.{named}
use Rattle.text.specs.Ascii.{ascii}
use Rattle.text.specs.Hex.{pairs}
use Rattle.tape_spec.specs.Rows.{row, name_of}
use Rattle.rows.specs.Heads.{most_head, head_of}
use Rattle.rows.proofs.Laws.Heads.{head-within, tail, row_is, length-row, tail-fits, tail-over, tail-some}
use Rattle.rows.proofs.event.put_row.Goals as goal
use Rattle.rows.proofs.event.put_row.Goals.{
  After-room-space,
  then-space-length-via-then-space-length,
  then-space-length-via-else-space-length+then-content-space,
}

-- the row that is asked for, and its head
abbrev asked : After-room-space → List ℕ
asked c = row c.args.number c.args.line (name_of (named (Some c.args.event))) c.args.content.now

abbrev begins : After-room-space → List ℕ
begins c = head_of c.args.number c.args.line (named (Some c.args.event))

pub returns-in_err-length : goal.returns-in_err-length
returns-in_err-length c =
    let within = head-within c.args.number c.args.line (named (Some c.args.event)) (omega (arith, c.ranges)) in
    absurd (puts-some c.in_err-length.field-0.0 (last c.in_err-length.ensures) zero-le within)

-- the head stands at the front of its places; the room is what is left, and the row is its head and its tail
record Measured (c : After-room-space) : Type 0 where
  row-length : length (asked c) ≡ length (begins c) + length (tail c.args.content.now)
  head-length : c.in_ok-length.length ≡ length (begins c)
  head : take c.in_ok-length.length c.lay_head.new.head ≡ begins c
  within : c.in_ok-length.length ≤ most_head
  room : c.room-space.result ≡ length c.args.out.now - c.args.at

measured : (c : After-room-space) → Measured c
measured c =
    let within = head-within c.args.number c.args.line (named (Some c.args.event)) (omega (arith, c.ranges)) in
    let lies = c.in_ok-length.ensures ∙ put-placed (begins c) (replicate most_head 0) 0 within in
    let ends = ap (λ (d : Ended). d.end) lies in
    record {
      row-length = length-row c.args.number c.args.line (named (Some c.args.event)) c.args.content.now;
      head-length = omega (arith, ends);
      head = ap (λ (d : Ended). take d.end d.out) lies ∙ take-placed (begins c) (replicate most_head 0);
      within = omega (arith, ends, within);
      room = c.room-space.ensures;
    }

pub overflow_add-length : goal.overflow_add-length
overflow_add-length c = omega (arith, (measured c).within)

pub returns-then-space-length : goal.returns-then-space-length
returns-then-space-length c =
    let a = c.args in
    let p = (goal.at.returns-then-space-length c).After-room-space in
    let m = measured p in
    sym (put_refused (asked p) a.out.now a.at
    (elim c.then-space-length.branch [
      | then-space-length-via-then-space-length w ↦ omega (arith, m.row-length, m.head-length, m.room, tail-some a.content.now, w.if-space-length.true)
      | then-space-length-via-else-space-length+then-content-space w ↦
          omega (
            arith,
            m.row-length,
            m.head-length,
            m.room,
            tail-over a.content.now (c.room-space.result - c.in_ok-length.length) w.if-content-space.true,
          )
    ]))

-- where both tests fail there is room for the whole row, and so for its parts
record Fits (c : After-room-space) : Type 0 where
  begun : length (begins c) ≤ length c.args.out.now - c.args.at
  shown : length (begins c ++ pairs c.args.content.now) ≤ length c.args.out.now - c.args.at
  whole : length (begins c ++ tail c.args.content.now) ≤ length c.args.out.now - c.args.at
  starts : c.args.at ≤ length c.args.out.now

fits : (c : After-room-space) → c.in_ok-length.length + 2 ≤ c.room-space.result
    → length c.args.content.now ≤ (c.room-space.result - c.in_ok-length.length) / 3
    → Fits c
fits c two three =
    let m = measured c in
    let l = begins c in
    let content = c.args.content.now in
    let t = tail-fits content (c.room-space.result - c.in_ok-length.length) (omega arith) three in
    let p = length-append l (pairs content) in
    let q = length-append l (tail content) in
    let e = length-append (pairs content) (ascii "\n") in
    record {
      begun = omega (arith, m.head-length, m.room);
      shown = omega (arith, m.head-length, m.room, t, p, e);
      whole = omega (arith, m.head-length, m.room, t, q);
      starts = omega (arith, m.room);
    }

pub slice_bounds-head-end : goal.slice_bounds-head-end
slice_bounds-head-end c = omega (arith, (measured (goal.at.slice_bounds-head-end c).After-room-space).within)

pub slice_bounds-put-end : goal.slice_bounds-put-end
slice_bounds-put-end c =
    sym (length-take-le _ _ (omega (arith, (measured (goal.at.slice_bounds-put-end c).After-room-space).within)))

pub returns-in_err-begun : goal.returns-in_err-begun
returns-in_err-begun c =
    let p = (goal.at.returns-in_err-begun c).After-room-space in
    let f = fits p c.if-space-length.false c.if-content-space.false in
    absurd (puts-some c.in_err-begun.field-0.0 (last (rw (measured p).head at c.in_err-begun.ensures)) f.starts f.begun)

pub returns-in_err-shown : goal.returns-in_err-shown
returns-in_err-shown c =
    let p = (goal.at.returns-in_err-shown c).After-room-space in
    let f = fits p c.if-space-length.false c.if-content-space.false in
    absurd (puts-some c.in_err-shown.field-0.0 (then _ _ (rw (measured p).head at c.in_ok-begun.ensures) (last c.in_err-shown.ensures)) f.starts
    f.shown)

pub returns : goal.returns
unfolding ascii
returns c =
    let a = c.args in
    let p = (goal.at.returns c).After-room-space in
    let f = fits p c.if-space-length.false c.if-content-space.false in
    puts-whole c.in_ok-shown.shown c.put-2.result c.put-2.new.out
    (then _ _ (rw (measured p).head at c.in_ok-begun.ensures) (then _ _ c.in_ok-shown.ensures (last c.put-2.ensures))) f.starts f.whole
    ∙ ap (λ (w : List ℕ). put w a.out.now a.at) (row_is a.number a.line (named (Some a.event)) a.content.now)
