-- Laws of the parameters.
-- Assumes nothing.
use mathlib.Core.Path.{◌≡◌, refl, sym, ap, ◌∙◌}
use mathlib.Core.Bool.{true, false, and-eq-true_iff}
use mathlib.Core.List.{List, [], ◌∷◌}
use mathlib.Core.Logic.{◌↔◌}
use Prim.Native.Nat.{ℕ, ◌≤◌, ◌<◌}
use native.Mathlib.Omega.{arith}
use lib.Dec.{eqb}
use lib.ListN.{length}
use borrow.Author.Tests.{eqb-true, eq-eqb, ne_eqb}
use Rattle.std.specs.Prelude.{Option, Some}
use Rattle.std.specs.Option.{unwrap_or}
use Rattle.ground.proofs.Laws.Choice.{between-true, between_is}
use Rattle.request_spec.specs.declared.parameter.Parameter.{Parameter}
use Rattle.request_spec.specs.declared.parameter.Parameter.TheVariants.{Speed, Settings, Cell}
use Rattle.request_spec.specs.Parameters.{parameter_code, parameter_with, length_of, in_range, is_value_of, IsValue, of_speed, of_settings, of_cell}

-- a value has 1 to 8 bytes
pub length_of-least : (p : Parameter) → 0 < length_of p
length_of-least Speed = omega arith
length_of-least Settings = omega arith
length_of-least Cell = omega arith

pub length_of-most : (p : Parameter) → length_of p ≤ 8
length_of-most Speed = omega arith
length_of-most Settings = omega arith
length_of-most Cell = omega arith

-- a parameter's value has its length, and for the speed is 3..10
pub value-sizes : (p : Parameter) (value : List ℕ) → is_value_of p value ≡ true → length value ≡ length_of p
unfolding is_value_of
value-sizes p value taken =
    eqb-true (length value) (length_of p) ((and-eq-true_iff (eqb (length value) (length_of p)) (in_range p value)).0 taken).0

pub value-within : (p : Parameter) (value : List ℕ) → is_value_of p value ≡ true → in_range p value ≡ true
unfolding is_value_of
value-within p value taken = ((and-eq-true_iff (eqb (length value) (length_of p)) (in_range p value)).0 taken).1

pub value-length : {p q : Parameter} (value : List ℕ) → p ≡ q → is_value_of p value ≡ true → length value ≡ length_of q
value-length {p} value same taken = value-sizes p value taken ∙ ap length_of same

-- the length is tried first
pub value-other : {n : ℕ} (p : Parameter) (value : List ℕ) → n ≡ length_of p → (length value ≡ n → ⊥) → false ≡ is_value_of p value
unfolding is_value_of
value-other p value long other = rw (ne_eqb (length value) (length_of p) (λ e. other (e ∙ sym long)))

pub value-sized : {n : ℕ} {p q : Parameter} (value : List ℕ) → p ≡ q → n ≡ length_of p → length value ≡ n → in_range q value ≡ is_value_of p value
unfolding is_value_of
value-sized {p} value same long whole =
    ap (λ (r : Parameter). in_range r value) (sym same) ∙ rw (eq-eqb (length value) (length_of p) (whole ∙ long))

-- a value is one by the table
pub value-is : (p : Parameter) (value : List ℕ) → (is_value_of p value ≡ true) ↔ IsValue p value
unfolding is_value_of
value-is p value = (λ taken. of p value (value-sizes p value taken) (value-within p value taken), back)
  where
    of : (q : Parameter) (v : List ℕ) → length v ≡ length_of q → in_range q v ≡ true → IsValue q v
    of Speed [] long fits = absurd (omega arith)
    of Speed (v ∷ []) long fits = let (least, most) = between-true 3 10 v fits in of_speed least most
    of Speed (v ∷ w ∷ more) long fits = absurd (omega arith)
    of Settings v long fits = of_settings long
    of Cell v long fits = of_cell long

    back : {q : Parameter} {v : List ℕ} → IsValue q v → is_value_of q v ≡ true
    back (of_speed {v} least most) = between_is 3 10 v least most
    back (of_settings {value} long) = rw (eq-eqb (length value) 4 long)
    back (of_cell {value} long) = rw (eq-eqb (length value) 8 long)

-- each parameter's code names it, so a code belongs to one parameter
pub parameter-with : (p : Parameter) → parameter_with (parameter_code p) ≡ Some p
unfolding parameter_with
parameter-with Speed = refl
parameter-with Settings = refl
parameter-with Cell = refl

pub same_code : (p q : Parameter) → eqb (parameter_code p) (parameter_code q) ≡ true → p ≡ q
same_code p q e =
    ap (λ (o : Option Parameter). unwrap_or o p)
    (sym (parameter-with p) ∙ ap parameter_with (eqb-true (parameter_code p) (parameter_code q) e) ∙ parameter-with q)
