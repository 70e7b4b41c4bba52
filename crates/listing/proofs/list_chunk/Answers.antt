-- `list_chunk`: a call takes no more than was left of the chunk, and something of it, and writes no more than the buffer holds.
use Rattle.std.proofs.Common.{◌≡◌, ℕ, ◌-◌, ◌≤◌, ◌<◌, List, [], ◌∷◌, length, take, drop, sym, ap, subst, false, arith}
use Rattle.std.proofs.lemmas.List.{length-take-le, length-drop}
use Rattle.ground.proofs.Laws.Lists.{take_rest}
use Rattle.ground.proofs.Laws.Refusals.{number-some}
use Rattle.tape_spec.specs.Limits.{most_records}
use Rattle.tape_spec.specs.declared.tape.Tape.{Tape}
use Rattle.tape_spec.specs.Taping.{is_over, ListedOut, listed_to, listed}
use Rattle.tape_spec.proofs.Laws.Taping.{listed-elim, lists-chunk, listed-some, Within, listed-within}
use Rattle.listing.proofs.list_chunk.Goals as goal
use Rattle.listing.proofs.list_chunk.Goals.{In_ok-listed}

-- a call that is not refused takes something of a chunk that has a byte, unless nothing further is read
takes-some : (t : Tape) (chunk text : List ℕ) → 0 < length chunk → is_over t.next ≡ false → (listed t chunk text).refusal ≡ 0
    → 0 < (listed t chunk text).taken
takes-some t [] text any more = absurd (omega arith)
takes-some t (b ∷ bs) text any more =
    listed-elim (λ (d : ListedOut). d.refusal ≡ 0 → 0 < d.taken) t (b ∷ bs) text (λ why refused. absurd (number-some why refused))
    (λ fine roomy _. subst (λ (d : ListedOut). 0 < d.taken) (lists-chunk t (b ∷ bs) text fine roomy) (listed-some t b bs text fine roomy more))

-- a call on what is left of a chunk from a place on
record Lists (t : Tape) (chunk text : List ℕ) (at : ℕ) (d : ListedOut) : Type 0 where
  within : Within (drop at chunk) text d
  some : at < length chunk → is_over t.next ≡ false → 0 < d.taken

lists : {tape : Tape} {taken written : ℕ} {left : List ℕ} (t : Tape) (chunk text : List ℕ) (at : ℕ) → t.records ≤ most_records
    → listed_to tape taken written left ≡ listed t (take (length chunk - at) (drop at chunk)) text
    → Lists t chunk text at (listed_to tape taken written left)
lists t chunk text at few says =
    let is = rw (take_rest chunk at) at says in
    record {
      within = rw is (listed-within t (drop at chunk) text few);
      some = λ any more. rw (ap (λ (d : ListedOut). d.taken) is)
          (takes-some t (drop at chunk) text (omega (arith, length-drop at chunk)) more (sym (ap (λ (d : ListedOut). d.refusal) is)));
    }

-- the call of a turn
said : (c : In_ok-listed) → let l = c.loop-taken in let d = c.in_ok-listed.listed in
    Lists l.tape c.args.chunk.now l.text l.taken (listed_to d.tape d.taken d.written c.list.new.out)
said c = let l = c.loop-taken in lists l.tape c.args.chunk.now l.text l.taken l.invariant.few_enough c.in_ok-listed.ensures

pub slice_bounds-print-end : goal.slice_bounds-print-end
slice_bounds-print-end c = omega (arith, (said (goal.at.slice_bounds-print-end c).In_ok-listed).within.written, c.list.auto)

pub slice_bounds-print-end-in-loop-taken : goal.slice_bounds-print-end-in-loop-taken
slice_bounds-print-end-in-loop-taken c =
    sym (length-take-le _ _ (omega (arith, (said (goal.at.slice_bounds-print-end-in-loop-taken c).In_ok-listed).within.written, c.list.auto)))

pub overflow_add-taken : goal.overflow_add-taken
overflow_add-taken c =
    omega (arith, (said (goal.at.overflow_add-taken c).In_ok-listed).within.taken, length-drop c.loop-taken.taken c.args.chunk.now)

pub loop-taken-smaller : goal.loop-taken-smaller
loop-taken-smaller c = omega (arith, (said (goal.at.loop-taken-smaller c).In_ok-listed).some (omega arith) (sym c.if-not-is_over.ensures))

pub loop-taken-preserved : goal.loop-taken-preserved
loop-taken-preserved c =
    let within = (said (goal.at.loop-taken-preserved c).In_ok-listed).within in
    record { in_chunk = omega (arith, within.taken, length-drop c.loop-taken.taken c.args.chunk.now); few_enough = within.records }
