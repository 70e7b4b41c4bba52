-- A call's statement leaves no choice: two results that it allows are equal. docs/STATEMENTS.md cites these for the call on a chunk and for
-- what follows a kind byte; the others have those of ground.
-- Assumes nothing.
use mathlib.Core.Path.{◌≡◌, refl, sym, ap, ◌∙◌}
use mathlib.Core.List.{List}
use mathlib.Mathlib.Logic.Function.Defs.{LeftInverse-Injective}
use Prim.Native.Nat.{ℕ}
use Rattle.std.specs.Prelude.{Result, Ok, Err}
use Rattle.ground.specs.declared.refusal.Refusal.{Refusal}
use Rattle.ground.proofs.Laws.Refusals.{number-some}
use Rattle.ground.proofs.Laws.Unique.{same, err-injective}
use Rattle.tape_spec.specs.declared.tape.Listed.{Listed}
use Rattle.tape_spec.specs.declared.tape.Tape.{Tape}
use Rattle.tape_spec.specs.declared.tape.Next.{Next}
use Rattle.tape_spec.specs.declared.tape.Next.TheVariants.{Kind, Body, Bad, Full}
use Rattle.tape_spec.specs.Whole.{kind}
use Rattle.tape_spec.specs.Taping.{awaited, ListedOut, listed_out}
use Rattle.tape_spec.specs.Coming.{Coming, KIND, BODY, BAD, FULL, coming}
use Rattle.tape_spec.proofs.Laws.Whole.{kind-known}
use Rattle.tape_spec.proofs.Laws.Taping.{out-listed}

listed-injective : (t : Tape) (r s : Result Listed Refusal) (o p : List ℕ) → listed_out t r o ≡ listed_out t s p → r ≡ s
listed-injective t (Ok n) (Ok m) o p e =
    ap (λ (a : ListedOut). Ok (record { tape = a.tape; taken = a.taken; written = a.written })) e
listed-injective t (Ok n) (Err w) o p e = absurd (number-some w (sym (ap (λ (a : ListedOut). a.refusal) e)))
listed-injective t (Err v) (Ok m) o p e = absurd (number-some v (ap (λ (a : ListedOut). a.refusal) e))
listed-injective t (Err v) (Err w) o p e = err-injective v w (ap (λ (a : ListedOut). a.refusal) e)

pub same-listed : (t : Tape) {r s : Result Listed Refusal} {o p : List ℕ} {l : ListedOut} → listed_out t r o ≡ l → listed_out t s p ≡ l
    → (r ≡ s) × (o ≡ p)
same-listed t {r} {s} {o} {p} d f =
    let e = same d f in
    (listed-injective t r s o p e, sym (out-listed t r o) ∙ ap (λ (a : ListedOut). a.out) e ∙ out-listed t s p)

-- what is next where this is coming
abbrev next_of : Coming → Next
next_of KIND = Kind
next_of (BODY k) = awaited (kind k)
next_of BAD = Bad
next_of FULL = Full

next_of-coming : (x : Next) → next_of (coming x) ≡ x
next_of-coming Kind = refl
next_of-coming (Body line) = ap awaited (kind-known line)
next_of-coming Bad = refl
next_of-coming Full = refl

-- of what follows a kind byte
pub same-coming : {r s : Next} {c : Coming} → coming r ≡ c → coming s ≡ c → r ≡ s
same-coming {r} {s} p q = LeftInverse-Injective next_of coming next_of-coming r s (same p q)
