-- `line::hear`: at each turn, what is left of the piece gives, from the receiver and the sums so far, what the whole piece gives.
-- Assumes nothing.
use mathlib.Core.Path.{◌≡◌, refl, sym, ap, ◌∙◌}
use mathlib.Core.Bool.{true, false, not}
use mathlib.Core.List.{List, [], ◌∷◌}
use Prim.Native.Nat.{ℕ, ◌+◌, ◌<◌, zero-le}
use native.Mathlib.Nat.{add-zero}
use native.Mathlib.Numerals.{add-one}
use native.Mathlib.Omega.{arith}
use borrow.Author.Tests.{not-false}
use lib.Dec.{ltb}
use lib.ListN.{length, take, get_or, set}
use lib.Seq.{take-suc-set}
use Rattle.std.proofs.Common.{rules}
use Rattle.std.specs.Prelude.{Some}
use Rattle.ground.proofs.Laws.Choice.{or-none}
use Rattle.wire_spec.specs.Limits.{most_content}
use Rattle.wire_spec.specs.Stuffing.{specials}
use Rattle.wire_spec.proofs.Laws.Stuffing.{specials-append, specials-plain, specials-special}
use Rattle.link_spec.specs.declared.event.Event.{Event}
use Rattle.link_spec.specs.declared.event.Event.TheVariants.{Frame, Check, Short, Long, Pair, Addr}
use Rattle.link_spec.specs.declared.event.Verdict.{Verdict}
use Rattle.link_spec.specs.declared.station.Station.{Station}
use Rattle.link_spec.specs.declared.receiver.Phase.{Phase}
use Rattle.link_spec.specs.declared.receiver.Phase.TheVariants.{Inside, Pending}
use Rattle.link_spec.specs.declared.receiver.Turn.{Turn}
use Rattle.link_spec.specs.declared.receiver.Turn.TheVariants.{Rest, Begin, Wait, Keep, Stop, Tell}
use Rattle.link_spec.specs.Events.{named, verdict}
use Rattle.link_spec.specs.Moves.{move_of, move_at}
use Rattle.link_spec.specs.Station.{check_on, has_address}
use Rattle.link_spec.specs.Receiving.{moved}
use Rattle.link_spec.specs.Turning.{turn}
use Rattle.link_spec.proofs.Laws.Turning.{keep-room}
use Rattle.link_spec.proofs.Laws.Receiving.{good-count}
use Rattle.link_spec.proofs.Laws.Unique.{same_move, same-ruling}
use Rattle.tape_spec.specs.Limits.{most_records}
use Rattle.totals_spec.specs.Whole.{is_frame}
use Rattle.totals_spec.specs.Adding.{account, after_bytes}
use Rattle.totals_spec.proofs.Laws.Counting.{sums-within}
use Rattle.totals.proofs.Laws.Hearing.{Goes, go-skip, go-keep, go-quiet, go-tell, go-stop, specials-few, go-frame, at-end}
use Rattle.totals.proofs.line.hear.Goals as goal
use Rattle.totals.proofs.line.hear.Goals.{in-Outside, in-Inside, in-Pending, Joined-phase, In-Keep, After-at_stop}

-- ---- the turn

-- the turn that was found is that of the byte
turn_is : (t : Turn) (station : Station) (phase : Phase) (count b : ℕ) → move_of t ≡ move_at station phase count b → t ≡ turn station phase count b
turn_is t station phase count b found = same_move {r = t} {s = turn station phase count b} found refl

-- one more byte in the content, and how many of it stuffing changes
kept-specials : (content : List ℕ) (count b n : ℕ) → length content ≡ most_content → count < most_content → specials (b ∷ []) ≡ n
    → specials (take count content) + n ≡ specials (take (count + 1) (set content count b))
kept-specials content count b n sized fits is =
    ap (λ (k : ℕ). specials (take count content) + k) (sym is)
    ∙ sym (specials-append (take count content) (b ∷ []))
    ∙ ap specials (sym (ap (λ (k : ℕ). take k (set content count b)) (add-one count) ∙ take-suc-set content count b (omega arith)))

-- an event that is no FRAME
other-event : (e : Event) → (e ≡ Frame → ⊥) → is_frame (named (Some e)) ≡ false
other-event Frame h = absurd (h refl)
other-event Check h = refl
other-event Short h = refl
other-event Long h = refl
other-event Pair h = refl
other-event Addr h = refl

-- ---- after the sweep, whichever it was

-- a station that no call refuses
fine : (c : Joined-phase) → has_address c.args.receiver.station ≡ true
fine c =
    let r = c.args.receiver in
    not-false (has_address r.station) (or-none (ltb most_content r.count) (not (has_address r.station)) c.requires.good).1

-- what is left of the piece gives what the whole piece gives
swept : (c : Joined-phase)
    → Goes c.args.receiver.station c.args.sums.heard c.args.piece.now (after_bytes (account c.args.receiver c.args.sums) c.args.piece.now) c.loop-taken.phase
    c.match-phase.count c.match-phase.content c.loop-taken.specials c.loop-taken.frames c.loop-taken.inside c.loop-taken.reserved c.match-phase.taken
swept c =
    let g = c.loop-taken.invariant in
    elim c.match-phase.branch [
      | in-Outside w ↦ rw (w.count-is, w.content-is, w.taken-is) (go-skip _ _ _ _ (fine c) g w.in-Outside.is w.skip-taken.ensures)
      | in-Inside w ↦ rw (w.count-is, w.content-is, w.taken-is) (go-keep _ _ _ _ (fine c) g w.in-Inside.is w.keep-kept.ensures)
      | in-Pending w ↦ rw (w.count-is, w.content-is, w.taken-is) g
    ]

-- the turn was to keep a byte, so there is room for it
room : (c : In-Keep) → c.match-phase.count < most_content
room c =
    keep-room c.args.receiver.station c.loop-taken.phase c.match-phase.count (get_or c.args.piece.now c.match-phase.taken 0)
    (turn_is (Keep c.in-Keep.byte) _ _ _ _ c.in-Keep.ensures)

-- what the stop byte tells
told : (c : After-at_stop) → c.at_stop.result ≡ verdict (check_on c.args.receiver.station) (take c.match-phase.count c.match-phase.content)
told c = same-ruling {r = c.at_stop.result} {s = verdict (check_on c.args.receiver.station) (take c.match-phase.count c.match-phase.content)} c.at_stop.ensures refl

-- ---- the goals

pub loop-taken-init : goal.loop-taken-init
loop-taken-init c =
    record {
      part = zero-le;
      fit = record { on = refl; sized = omega arith; within = good-count c.args.receiver c.requires.good };
      counted = c.count_specials-specials.ensures;
      within = rw (add-zero c.args.sums.heard) (sums-within most_records c.args.sums c.requires.counted);
      same = rw (add-zero c.args.sums.heard) refl;
    }

pub loop-taken-preserved-in-Rest : goal.loop-taken-preserved-in-Rest
unfolding moved specials
loop-taken-preserved-in-Rest c =
    let way = goal.at.loop-taken-preserved-in-Rest c in
    let g = swept way.Joined-phase in
    go-quiet _ _ _ _ (fine way.Joined-phase) g c.if-taken-piece.true _ _ _ _ (turn_is Rest _ _ _ _ c.in-Rest.ensures) refl refl g.counted

pub loop-taken-preserved-in-Begin : goal.loop-taken-preserved-in-Begin
unfolding moved specials
loop-taken-preserved-in-Begin c =
    let way = goal.at.loop-taken-preserved-in-Begin c in
    go-quiet _ _ _ _ (fine way.Joined-phase) (swept way.Joined-phase) c.if-taken-piece.true Inside 0 _ 0 (turn_is Begin _ _ _ _ c.in-Begin.ensures) refl refl refl

pub loop-taken-preserved-in-Wait : goal.loop-taken-preserved-in-Wait
unfolding moved specials
loop-taken-preserved-in-Wait c =
    let way = goal.at.loop-taken-preserved-in-Wait c in
    let g = swept way.Joined-phase in
    go-quiet _ _ _ _ (fine way.Joined-phase) g c.if-taken-piece.true Pending _ _ _ (turn_is Wait _ _ _ _ c.in-Wait.ensures) refl refl g.counted

pub bounds-content-count : goal.bounds-content-count
bounds-content-count c = room (goal.at.bounds-content-count c).In-Keep

pub overflow_add-specials : goal.overflow_add-specials
overflow_add-specials c =
    let g = c.loop-taken.invariant in
    let few = specials-few _ _ _ _ (fine (goal.at.overflow_add-specials c).Joined-phase) g c.loop-taken-test.true in
    record { fits = omega (arith, few, g.fit.within) }

pub loop-taken-preserved-then-byte-ge-START : goal.loop-taken-preserved-then-byte-ge-START
unfolding moved specials
loop-taken-preserved-then-byte-ge-START c =
    let way = goal.at.loop-taken-preserved-then-byte-ge-START c in
    let g = swept way.Joined-phase in
    go-quiet _ _ _ _ (fine way.Joined-phase) g c.if-taken-piece.true Inside _ _ _ (turn_is (Keep c.in-Keep.byte) _ _ _ _ c.in-Keep.ensures) refl refl
    (ap (◌+ 1) g.counted ∙ kept-specials _ _ _ 1 g.fit.sized (room way.In-Keep) (specials-special _ [] c.if-byte-ge-START.true (omega arith)))

pub loop-taken-preserved-else-byte-ge-START : goal.loop-taken-preserved-else-byte-ge-START
unfolding moved specials
loop-taken-preserved-else-byte-ge-START c =
    let way = goal.at.loop-taken-preserved-else-byte-ge-START c in
    let g = swept way.Joined-phase in
    go-quiet _ _ _ _ (fine way.Joined-phase) g c.if-taken-piece.true Inside _ _ _ (turn_is (Keep c.in-Keep.byte) _ _ _ _ c.in-Keep.ensures) refl refl
    (g.counted ∙ sym (add-zero _) ∙ kept-specials _ _ _ 0 g.fit.sized (room way.In-Keep) (specials-plain _ [] c.if-byte-ge-START.false))

-- what a FRAME adds, and what it is added to, are far below 2^64
pub overflow_add-inside-then-eq : goal.overflow_add-inside-then-eq
overflow_add-inside-then-eq c =
    let way = goal.at.overflow_add-inside-then-eq c in
    let g = swept way.Joined-phase in
    record { fits = omega (arith, specials-few _ _ _ _ (fine way.Joined-phase) g c.if-taken-piece.true, g.fit.within) }

pub overflow_add-inside-then-eq-2 : goal.overflow_add-inside-then-eq-2
overflow_add-inside-then-eq-2 c =
    let way = goal.at.overflow_add-inside-then-eq-2 c in
    let g = swept way.Joined-phase in
    record { fits = omega (arith, specials-few _ _ _ _ (fine way.Joined-phase) g c.if-taken-piece.true, g.fit.within, g.part, g.within.inside) }

pub loop-taken-preserved-then-eq : goal.loop-taken-preserved-then-eq
loop-taken-preserved-then-eq c =
    let way = goal.at.loop-taken-preserved-then-eq c in
    go-frame _ _ _ _ (fine way.Joined-phase) (swept way.Joined-phase) c.if-taken-piece.true (turn_is Stop _ _ _ _ c.in-Stop.ensures)
    (let is : c.at_stop.result.event ≡ Frame = search rules in
    sym (ap (λ (v : Verdict). named (Some v.event)) (sym (told way.After-at_stop)) ∙ ap (λ (e : Event). named (Some e)) is))

pub loop-taken-preserved-else-eq : goal.loop-taken-preserved-else-eq
loop-taken-preserved-else-eq c =
    let way = goal.at.loop-taken-preserved-else-eq c in
    go-stop _ _ _ _ (fine way.Joined-phase) (swept way.Joined-phase) c.if-taken-piece.true (turn_is Stop _ _ _ _ c.in-Stop.ensures)
    (ap (λ (v : Verdict). is_frame (named (Some v.event))) (sym (told way.After-at_stop))
    ∙ other-event c.at_stop.result.event (λ (is : c.at_stop.result.event ≡ Frame). search rules))

pub loop-taken-preserved-in-Tell : goal.loop-taken-preserved-in-Tell
loop-taken-preserved-in-Tell c =
    let way = goal.at.loop-taken-preserved-in-Tell c in
    go-tell _ _ _ _ (fine way.Joined-phase) (swept way.Joined-phase) c.if-taken-piece.true (turn_is (Tell _) _ _ _ _ c.in-Tell.ensures)

pub loop-taken-preserved : goal.loop-taken-preserved
loop-taken-preserved c = swept (goal.at.loop-taken-preserved c).Joined-phase

pub returns : goal.returns
returns c = at-end _ _ _ _ c.loop-taken.invariant c.loop-taken-test.false
