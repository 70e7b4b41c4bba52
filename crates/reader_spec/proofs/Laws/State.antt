-- A reader is known by its state, and the bad states are those of row 4 of the refusal table.
-- Assumes nothing.
use mathlib.Core.Path.{◌≡◌, refl, sym, ◌∙◌}
use mathlib.Core.Bool.{Bool, true, false, not, ◌&&◌, ◌||◌, and-false, or-true, true≢false, false≢true}
use mathlib.Core.Option.{Option, none, some}
use mathlib.Mathlib.Logic.Function.Defs.{LeftInverse-Injective}
use Prim.Native.Nat.{◌≤◌}
use lib.Dec.{leb}
use borrow.Author.Tests.{ltb-true, lt-ltb, leb-true, leb-false, lt-leb}
use Rattle.std.specs.Prelude as std
use Rattle.std.specs.Prelude.{None, Some}
use Rattle.ground.proofs.Laws.Choice.{by-test, or_elim, or-none}
use Rattle.request_spec.specs.Parameters.{is_speed}
use Rattle.reader_spec.specs.declared.reader as declared
use Rattle.reader_spec.specs.declared.reader.Reader.{Reader}
use Rattle.reader_spec.specs.Limits.{room}
use Rattle.reader_spec.specs.Speeds.{is_above, has_speed}
use Rattle.reader_spec.specs.State.{Last, State, remembered, state_of, too_far, bad_state, BadState, speed_under, speed_over, slow_above, length_over}

-- ---- a reader and its state

-- the memory that says this
abbrev memory_with : Option Last → std.Option declared.Last.Last
memory_with none = None
memory_with (some last) = Some (record { identifier = last.identifier; command = last.command; length = last.length })

memory-back : (m : std.Option declared.Last.Last) → memory_with (remembered m) ≡ m
memory-back None = refl
memory-back (Some last) = refl

-- a reader in this state
abbrev pub reader_with : State → Reader
reader_with s = record { parameters = s.parameters; fast = s.fast; memory = memory_with s.last }

reader-back : (r : Reader) → reader_with (state_of r) ≡ r
reader-back r = λ i. record { parameters = r.parameters; fast = r.fast; memory = memory-back r.memory i }

-- so a reader is known by its state
pub state-injective : (a b : Reader) → state_of a ≡ state_of b → a ≡ b
state-injective = LeftInverse-Injective reader_with state_of reader-back

-- and every state is one of a reader
pub state-back : (s : State) → state_of (reader_with s) ≡ s
state-back s = λ i. record { parameters = s.parameters; fast = s.fast; last = of s.last i }
  where
    of : (last : Option Last) → remembered (memory_with last) ≡ last
    of none = refl
    of (some last) = refl

-- ---- row 4, both ways

pub bad-state : {s : State} → BadState s → bad_state s ≡ true
bad-state {s} (speed_under under) = rw (lt-leb 3 s.parameters.speed under)
bad-state {s} (speed_over over) = rw (lt-leb s.parameters.speed 10 over, and-false (leb 3 s.parameters.speed))
bad-state {s} (slow_above slow above most) =
    rw (slow, lt-ltb 7 s.parameters.speed above, and-false (is_speed s.parameters.speed))
bad-state {s} (length_over {last} is far) =
    rw (is, lt-ltb room last.length far, or-true (not (has_speed s.fast s.parameters.speed)))

pub bad-row : (s : State) → bad_state s ≡ true → BadState s
bad-row s bad = or_elim (not (has_speed s.fast s.parameters.speed)) (too_far s.last) speed (far s.last refl) bad
  where
    beyond : s.parameters.speed ≤ 10 → not (s.fast || not (is_above s.parameters.speed)) ≡ true → BadState s
    beyond most =
        let v = s.parameters.speed in
        by-test (λ (t : Bool). not (t || not (is_above v)) ≡ true → BadState s) s.fast (λ _ never. absurd (false≢true never))
        (λ slow. by-test (λ (t : Bool). not (not t) ≡ true → BadState s) (is_above v) (λ above _. slow_above slow (ltb-true 7 v above) most)
        (λ _ never. absurd (false≢true never)))

    speed : not (has_speed s.fast s.parameters.speed) ≡ true → BadState s
    speed =
        let v = s.parameters.speed in
        by-test (λ (t : Bool). not ((t && leb v 10) && (s.fast || not (is_above v))) ≡ true → BadState s) (leb 3 v)
        (λ _. by-test (λ (t : Bool). not (t && (s.fast || not (is_above v))) ≡ true → BadState s) (leb v 10) (λ t. beyond (leb-true v 10 t))
        (λ f _. speed_over (leb-false v 10 f)))
        (λ f _. speed_under (leb-false 3 v f))

    far : (last : Option Last) → s.last ≡ last → too_far last ≡ true → BadState s
    far none is over = absurd (false≢true over)
    far (some last) is over = length_over is (ltb-true room last.length over)

-- so a state is good just where no row is met
pub good-state : {s : State} → bad_state s ≡ false → BadState s → ⊥
good-state good bad = true≢false (sym (bad-state bad) ∙ good)

pub no_row : (s : State) → (BadState s → ⊥) → bad_state s ≡ false
no_row s never =
    by-test (λ (t : Bool). bad_state s ≡ t → t ≡ false) (bad_state s) (λ _ bad. absurd (never (bad-row s bad))) (λ _ _. refl) refl

-- and its speed is one that the reader has
pub good-speed : (s : State) → bad_state s ≡ false → has_speed s.fast s.parameters.speed ≡ true
good-speed s good =
    by-test (λ (t : Bool). not t ≡ false → t ≡ true) (has_speed s.fast s.parameters.speed) (λ _ _. refl) (λ _ never. absurd (true≢false never))
    (or-none (not (has_speed s.fast s.parameters.speed)) (too_far s.last) good).0
