-- An event is known by its name, and what is told by its event and length; which of them a stop byte tells goes by the rules' table.
-- Assumes nothing.
use mathlib.Core.Path.{◌≡◌, refl, sym, ap₂, ◌∙◌}
use mathlib.Core.Bool.{true, false}
use mathlib.Core.List.{List}
use mathlib.Mathlib.Logic.Function.Defs.{LeftInverse-Injective}
use Prim.Native.Nat.{ℕ, ◌-◌, ◌≤◌, ◌<◌}
use lib.ListN.{length}
use Rattle.std.specs.Prelude.{Option, None, Some}
use borrow.Author.Tests.{ltb-true, ltb-false, lt-ltb, le-ltb}
use Rattle.ground.proofs.Laws.Choice.{cond-elim}
use Rattle.checks.specs.declared.kind.Check as kind
use Rattle.checks.specs.Check.{check_length, is_right}
use Rattle.link_spec.specs.declared.event.Event.{Event}
use Rattle.link_spec.specs.declared.event.Event.TheVariants.{Frame, Check, Short, Long, Pair, Addr}
use Rattle.link_spec.specs.declared.event.Verdict.{Verdict}
use Rattle.link_spec.specs.Limits.{least_content}
use Rattle.link_spec.specs.Events.{Name, NONE, FRAME, CHECK, SHORT, LONG, PAIR, ADDR, named, happened, telling, event_told, length_told, too_short, verdict}
use Rattle.link_spec.specs.Rules.{ByStop, short, wrong, right}

-- the event with this name, if there is one
abbrev pub event_of : Name → Option Event
event_of NONE = None
event_of FRAME = Some Frame
event_of CHECK = Some Check
event_of SHORT = Some Short
event_of LONG = Some Long
event_of PAIR = Some Pair
event_of ADDR = Some Addr

pub event_of-named : (e : Option Event) → event_of (named e) ≡ e
event_of-named None = refl
event_of-named (Some Frame) = refl
event_of-named (Some Check) = refl
event_of-named (Some Short) = refl
event_of-named (Some Long) = refl
event_of-named (Some Pair) = refl
event_of-named (Some Addr) = refl

pub named-injective : (a b : Option Event) → named a ≡ named b → a ≡ b
named-injective = LeftInverse-Injective event_of named event_of-named

-- an event is something that happened
pub some-happens : (e : Event) → happened (named (Some e)) ≡ true
some-happens Frame = refl
some-happens Check = refl
some-happens Short = refl
some-happens Long = refl
some-happens Pair = refl
some-happens Addr = refl

-- what is told, by its event and its length
abbrev told_by : Option Event → ℕ → Option Verdict
told_by None length = None
told_by (Some event) length = Some (telling event length)

told_by-parts : (v : Option Verdict) → told_by (event_told v) (length_told v) ≡ v
told_by-parts None = refl
told_by-parts (Some v) = refl

pub told-injective : (v w : Option Verdict) → event_told v ≡ event_told w → length_told v ≡ length_told w → v ≡ w
told-injective v w event length = sym (told_by-parts v) ∙ ap₂ told_by event length ∙ told_by-parts w

module _ (check : kind.Check) (content : List ℕ) where
  -- what holds of the three answers, where they are given, holds of what a stop byte tells
  pub by-stop : (P : Verdict → Type 0)
      → (length content < least_content → P (telling Short 0))
      → (least_content ≤ length content → is_right check content ≡ false → P (telling Check (length content - check_length check)))
      → (least_content ≤ length content → is_right check content ≡ true → P (telling Frame (length content - check_length check)))
      → P (verdict check content)
  unfolding verdict
  by-stop P few bad good =
      cond-elim P (too_short content) (λ t. few (ltb-true (length content) least_content t))
      (λ f. let least = ltb-false (length content) least_content f in
      cond-elim (λ (e : Event). P (telling e (length content - check_length check))) (is_right check content) (good least) (bad least))

  -- so the event that a stop byte tells is the table's
  pub verdict-rule : ByStop check content (verdict check content)
  verdict-rule = by-stop (ByStop check content) short wrong right

  -- and the table leaves no other answer
  pub verdict-only : {v : Verdict} → ByStop check content v → v ≡ verdict check content
  unfolding verdict
  verdict-only (short few) = rw (lt-ltb (length content) least_content few)
  verdict-only (wrong least is) = rw (le-ltb (length content) least_content least, is)
  verdict-only (right least is) = rw (le-ltb (length content) least_content least, is)
