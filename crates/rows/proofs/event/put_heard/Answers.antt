-- `event::put_heard`: no event has no row, FRAME shows the content that it carries, and every other event shows none.
-- Assumes nothing.
use mathlib.Core.Path.{◌≡◌, refl, sym, ap, subst⁻¹, ◌∙◌}
use mathlib.Core.Logic.{◌≢◌}
use mathlib.Core.List.{List, []}
use Prim.Native.Nat.{ℕ, zero-le}
use native.Mathlib.Omega.{arith}
use lib.ListN.{length, take}
use Rattle.std.specs.Prelude.{Option, Some}
use Rattle.std.proofs.lemmas.List.{take_min}
use Rattle.ground.specs.Laying.{put}
use Rattle.ground.proofs.Laws.Laying.{put-placed, placed-nil}
use Rattle.link_spec.specs.declared.event.Event.{Event}
use Rattle.link_spec.specs.declared.event.Event.TheVariants.{Frame, Check, Short, Long, Pair, Addr}
use Rattle.link_spec.specs.declared.event.Verdict.{Verdict}
use Rattle.link_spec.specs.Events.{named, event_told, length_told}
use Rattle.tape_spec.specs.declared.tape.Line.{Line}
use Rattle.tape_spec.specs.Rows.{row, name_of, event_row}
use Rattle.tape_spec.proofs.Laws.Rows.{frame_row}
use Rattle.rows.proofs.event.put_heard.Goals as goal
use Rattle.rows.proofs.event.put_heard.Goals.{in-Frame, in_default-event}

-- an event that is no FRAME
others : (n : ℕ) (line : Line) (e : Event) (content : List ℕ) → e ≢ Frame
    → row n line (name_of (named (Some e))) [] ≡ event_row n line (named (Some e)) content
unfolding name_of event_row
others n line Frame content other = absurd (other refl)
others n line Check content other = refl
others n line Short content other = refl
others n line Long content other = refl
others n line Pair content other = refl
others n line Addr content other = refl

frame : (n : ℕ) (line : Line) (e : Event) (content : List ℕ) → e ≡ Frame
    → row n line (name_of (named (Some e))) content ≡ event_row n line (named (Some e)) content
frame n line e content is =
    subst⁻¹ (λ (x : Event). row n line (name_of (named (Some x))) content ≡ event_row n line (named (Some x)) content) is (frame_row n line content)

pub returns-in_default : goal.returns-in_default
unfolding event_row
returns-in_default c =
    let a = c.args in
    sym (placed-nil a.out.now a.at)
    ∙ sym (put-placed [] a.out.now a.at zero-le)
    ∙ ap (λ (t : Option Verdict). put (event_row a.number a.line (named (event_told t)) (take (length_told t) a.heard.content)) a.out.now a.at) (sym c.in_default.is)

pub returns : goal.returns
returns c =
    let a = c.args in
    let v = c.in-Some.told in
    -- the array that comes with an event
    let whole : length a.heard.content ≡ 64 = omega arith in
    c.put_row.ensures
    ∙ ap (λ (l : List ℕ). put l a.out.now a.at)
    (elim c.match-told.branch [
      | in-Frame w ↦
          ap (λ (m : ℕ). row a.number a.line (name_of (named (Some v.event))) (take m a.heard.content)) (w.shown-is ∙ w.min-shown.ensures)
          ∙ ap (row a.number a.line (name_of (named (Some v.event)))) (rw whole at (take_min v.length a.heard.content))
          ∙ frame a.number a.line v.event (take v.length a.heard.content) w.in-Frame.is
      | in_default-event w ↦
          ap (λ (m : ℕ). row a.number a.line (name_of (named (Some v.event))) (take m a.heard.content)) w.shown-is
          ∙ others a.number a.line v.event (take v.length a.heard.content) w.in_default-event.not-Frame
    ] ∙ ap (λ (t : Option Verdict). event_row a.number a.line (named (event_told t)) (take (length_told t) a.heard.content)) (sym c.in-Some.is))
