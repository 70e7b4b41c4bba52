-- What is accepted is the table of the paper, and nothing else is.
-- Assumes nothing.
use mathlib.Core.Path.{◌≡◌, refl, sym, ap, subst, subst⁻¹, ◌∙◌}
use mathlib.Core.Bool.{Bool, true, false, cond}
use mathlib.Core.List.{List, [], ◌∷◌}
use mathlib.Mathlib.Logic.Function.Defs.{LeftInverse-Injective}
use Prim.Native.Nat.{ℕ, ◌-◌, ◌≤◌}
use native.Mathlib.Omega.{arith}
use lib.Dec.{eqb}
use lib.ListN.{length, get_or, take, drop}
use borrow.Author.Tests.{eqb-true}
use Rattle.std.specs.Prelude.{Option, None, Some, Result, Ok, Err}
use Rattle.ground.proofs.Laws.Choice.{cond-elim, or_elim, or-none}
use Rattle.ground.proofs.Laws.Lists.{take_rest}
use Rattle.link_spec.specs.Limits.{most_data}
use Rattle.request_spec.specs.declared.parameter.Parameter.{Parameter}
use Rattle.request_spec.specs.declared.parameter.Parameter.TheVariants.{Speed, Settings, Cell}
use Rattle.request_spec.specs.declared.command.Card.TheVariants.{Marin, Hid, Motorola}
use Rattle.request_spec.specs.declared.command.Command.{Command}
use Rattle.request_spec.specs.declared.command.Command.TheVariants.{Header, Write, Read, Card}
use Rattle.request_spec.specs.declared.command.Fault.{Fault}
use Rattle.request_spec.specs.declared.command.Fault.TheVariants.{UnknownCode, BadData}
use Rattle.request_spec.specs.Parameters.{parameter_code, parameter_with, is_value_of, of_speed}
use Rattle.request_spec.specs.Acceptance.{bare_accepted, write_accepted_to, write_accepted, read_accepted_from, read_accepted, is_known, acceptance, command_code, Judgement, by_code, by_codes, by_number, judgement, FitsCommand, Accepts, header, write, read, marin, hid, motorola}
use Rattle.request_spec.proofs.Laws.Parameters.{parameter-with, value-sizes, length_of-most, value-is}

-- ---- data as the code reads it: by its length and its places

pub bare-none : (command : Command) («data» : List ℕ) → length «data» ≡ 0 → Ok command ≡ bare_accepted command «data»
bare-none command [] none = refl
bare-none command (b ∷ more) none = absurd (omega arith)

pub bare-some : (command : Command) («data» : List ℕ) → (length «data» ≡ 0 → ⊥) → Err BadData ≡ bare_accepted command «data»
bare-some command [] some = absurd (some refl)
bare-some command (b ∷ more) some = refl

pub write-none : («data» : List ℕ) → length «data» ≡ 0 → Err BadData ≡ write_accepted «data»
write-none [] none = refl
write-none (b ∷ more) none = absurd (omega arith)

pub write-some : {coded : Option Parameter} («data» : List ℕ) → (length «data» ≡ 0 → ⊥) → parameter_with (get_or «data» 0 0) ≡ coded
    → write_accepted_to coded (drop 1 «data») ≡ write_accepted «data»
write-some [] some known = absurd (some refl)
write-some (code ∷ value) some known = ap (λ (k : Option Parameter). write_accepted_to k value) (sym known)

pub write-value : {p : Parameter} {t : Bool} («data» : List ℕ) → (length «data» ≡ 0 → ⊥) → parameter_with (get_or «data» 0 0) ≡ Some p
    → is_value_of p (drop 1 «data») ≡ t
    → cond t (Ok (Write p)) (Err BadData) ≡ write_accepted «data»
write-value {p} «data» some known taken =
    ap (λ (t : Bool). cond t (Ok (Write p)) (Err BadData)) (sym taken) ∙ write-some «data» some known

pub read-other : («data» : List ℕ) → (length «data» ≡ 1 → ⊥) → Err BadData ≡ read_accepted «data»
read-other [] other = refl
read-other (code ∷ []) other = absurd (other refl)
read-other (code ∷ b ∷ more) other = refl

pub read_one : {coded : Option Parameter} («data» : List ℕ) → length «data» ≡ 1 → parameter_with (get_or «data» 0 0) ≡ coded
    → read_accepted_from coded ≡ read_accepted «data»
read_one [] one known = absurd (omega arith)
read_one (code ∷ []) one known = ap read_accepted_from (sym known)
read_one (code ∷ b ∷ more) one known = absurd (omega arith)

-- ---- what is accepted is a row of the table

abbrev Row : ℕ → List ℕ → Result Command Fault → Type 0
Row code «data» (Ok command) = Accepts code «data» command
Row code «data» (Err UnknownCode) = is_known code ≡ false
Row code «data» (Err BadData) = Unit {0}

-- a code names its parameter
abbrev Named : ℕ → Option Parameter → Type 0
Named code None = Unit {0}
Named code (Some p) = code ≡ parameter_code p

parameter-named : (code : ℕ) → Named code (parameter_with code)
unfolding parameter_with
parameter-named code =
    cond-elim (Named code) (eqb code 0x02) (eqb-true code 0x02)
    (λ _. cond-elim (Named code) (eqb code 0x05) (eqb-true code 0x05)
    (λ _. cond-elim (Named code) (eqb code 0x80) (eqb-true code 0x80) (λ _. tt)))

bare-row : (code : ℕ) (command : Command) («data» : List ℕ) → Accepts code [] command → Row code «data» (bare_accepted command «data»)
bare-row code command [] row = row
bare-row code command (b ∷ more) row = tt

write-row : («data» : List ℕ) → Row 0x01 «data» (write_accepted «data»)
write-row [] = tt
write-row (code ∷ value) = of (parameter_with code) (parameter-named code)
  where
    of : (k : Option Parameter) → Named code k → Row 0x01 (code ∷ value) (write_accepted_to k value)
    of None named = tt
    of (Some p) named =
        cond-elim (Row 0x01 (code ∷ value)) (is_value_of p value)
        (λ taken. subst⁻¹ (λ (k : ℕ). Accepts 0x01 (k ∷ value) (Write p)) named (write p value ((value-is p value).0 taken))) (λ _. tt)

read-row : («data» : List ℕ) → Row 0x02 «data» (read_accepted «data»)
read-row [] = tt
read-row (code ∷ b ∷ more) = tt
read-row (code ∷ []) = of (parameter_with code) (parameter-named code)
  where
    of : (k : Option Parameter) → Named code k → Row 0x02 (code ∷ []) (read_accepted_from k)
    of None named = tt
    of (Some p) named = subst⁻¹ (λ (k : ℕ). Accepts 0x02 (k ∷ []) (Read p)) named (read p)

module _ (code : ℕ) («data» : List ℕ) where
  at_code : (k : ℕ) (a : Result Command Fault) → Row k «data» a → eqb code k ≡ true → Row code «data» a
  at_code k a row t = subst⁻¹ (λ (n : ℕ). Row n «data» a) (eqb-true code k t) row

  by_row : Row code «data» (acceptance code «data»)
  unfolding acceptance
  by_row =
      cond-elim P (eqb code 0x00) (at_code 0x00 (bare_accepted Header «data») (bare-row 0x00 Header «data» header))
      (λ a. cond-elim P (eqb code 0x01) (at_code 0x01 (write_accepted «data») (write-row «data»))
      (λ b. cond-elim P (eqb code 0x02) (at_code 0x02 (read_accepted «data») (read-row «data»))
      (λ c. cond-elim P (eqb code 0x10) (at_code 0x10 (bare_accepted (Card Marin) «data») (bare-row 0x10 (Card Marin) «data» marin))
      (λ d. cond-elim P (eqb code 0x14) (at_code 0x14 (bare_accepted (Card Hid) «data») (bare-row 0x14 (Card Hid) «data» hid))
      (λ e. cond-elim P (eqb code 0x18) (at_code 0x18 (bare_accepted (Card Motorola) «data») (bare-row 0x18 (Card Motorola) «data» motorola))
      (λ f. rw (a, b, c, d, e) f))))))
    where
      P : Result Command Fault → Type 0
      P = Row code «data»

  -- NACK 2 is for a code that does not exist, and only for that
  pub unknown-only : acceptance code «data» ≡ Err UnknownCode → is_known code ≡ false
  unknown-only asked = subst (Row code «data») asked by_row

  pub unknown-code : is_known code ≡ false → acceptance code «data» ≡ Err UnknownCode
  unfolding acceptance
  unknown-code unknown =
      let (a, s) = or-none (eqb code 0x00) _ unknown in
      let (b, t) = or-none (eqb code 0x01) _ s in
      let (c, u) = or-none (eqb code 0x02) _ t in
      let (d, v) = or-none (eqb code 0x10) _ u in
      let (e, f) = or-none (eqb code 0x14) _ v in
      rw (a, b, c, d, e, f)

  pub accepts : {command : Command} → acceptance code «data» ≡ Ok command → Accepts code «data» command
  accepts asked = subst (Row code «data») asked by_row

-- and each row is accepted
pub accepted : {code : ℕ} {«data» : List ℕ} {command : Command} → Accepts code «data» command → acceptance code «data» ≡ Ok command
unfolding acceptance
accepted header = refl
accepted (write p value fits) = simp (parameter-with p, (value-is p value).1 fits)
accepted (read p) = simp (parameter-with p)
accepted marin = refl
accepted hid = refl
accepted motorola = refl

-- a code exists where the table has a row with it, and only there
pub row-known : {code : ℕ} {«data» : List ℕ} {command : Command} → Accepts code «data» command → is_known code ≡ true
row-known header = refl
row-known (write p value fits) = refl
row-known (read p) = refl
row-known marin = refl
row-known hid = refl
row-known motorola = refl

abbrev pub HasRow : ℕ → Type 0
HasRow code = («data» : List ℕ) × (command : Command) × Accepts code «data» command

pub known-row : (code : ℕ) → is_known code ≡ true → HasRow code
known-row code =
    or_elim (eqb code 0x00) _ (row_at 0x00 ([], Header, header))
    (or_elim (eqb code 0x01) _ (row_at 0x01 (parameter_code Speed ∷ 3 ∷ [], Write Speed, write Speed (3 ∷ []) (of_speed (omega arith) (omega arith))))
    (or_elim (eqb code 0x02) _ (row_at 0x02 (parameter_code Speed ∷ [], Read Speed, read Speed))
    (or_elim (eqb code 0x10) _ (row_at 0x10 ([], Card Marin, marin))
    (or_elim (eqb code 0x14) _ (row_at 0x14 ([], Card Hid, hid)) (row_at 0x18 ([], Card Motorola, motorola))))))
  where
    row_at : (k : ℕ) → HasRow k → eqb code k ≡ true → HasRow code
    row_at k row t = subst⁻¹ HasRow (eqb-true code k t) row

-- so data that is accepted is short, and a write's data is what it says
pub accepted-short : {code : ℕ} {«data» : List ℕ} {command : Command} → Accepts code «data» command → length «data» ≤ most_data
accepted-short header = omega arith
accepted-short (write p value fits) = omega (arith, value-sizes p value ((value-is p value).1 fits), length_of-most p)
accepted-short (read p) = omega arith
accepted-short marin = omega arith
accepted-short hid = omega arith
accepted-short motorola = omega arith

pub fits-command : {code : ℕ} {«data» : List ℕ} {command : Command} → Accepts code «data» command → FitsCommand command «data»
fits-command header = tt
fits-command (write p value fits) = (omega arith, (value-is p value).1 fits)
fits-command (read p) = tt
fits-command marin = tt
fits-command hid = tt
fits-command motorola = tt

-- a write's data as the code takes it apart: there is a first byte, and the rest is a value
pub write-fits : {command : Command} {p : Parameter} («data» : List ℕ) → command ≡ Write p → FitsCommand command «data»
    → (1 ≤ length «data») × (is_value_of p (take (length «data» - 1) (drop 1 «data»)) ≡ true)
write-fits {p = p} «data» is fits =
    let (least, value) = subst (λ (k : Command). FitsCommand k «data») is fits in
    (least, subst⁻¹ (λ (l : List ℕ). is_value_of p l ≡ true) (take_rest «data» 1) value)

-- each command has its code
pub accepted-code : {code : ℕ} {«data» : List ℕ} {command : Command} → Accepts code «data» command → code ≡ command_code command
accepted-code header = refl
accepted-code (write p value fits) = refl
accepted-code (read p) = refl
accepted-code marin = refl
accepted-code hid = refl
accepted-code motorola = refl

-- ---- an answer in the paper's numbers is one case of the enum

abbrev parameter_of : ℕ → Parameter
parameter_of code = cond (eqb code (parameter_code Speed)) Speed (cond (eqb code (parameter_code Settings)) Settings Cell)

abbrev case_of : Judgement → Result Command Fault
case_of (by_code code) =
    cond (eqb code 0x00) (Ok Header)
    (cond (eqb code 0x10) (Ok (Card Marin)) (cond (eqb code 0x14) (Ok (Card Hid)) (Ok (Card Motorola))))
case_of (by_codes code p) = cond (eqb code 0x01) (Ok (Write (parameter_of p))) (Ok (Read (parameter_of p)))
case_of (by_number n) = cond (eqb n 2) (Err UnknownCode) (Err BadData)

case-judged : (a : Result Command Fault) → case_of (judgement a) ≡ a
case-judged (Ok Header) = refl
case-judged (Ok (Write Speed)) = refl
case-judged (Ok (Write Settings)) = refl
case-judged (Ok (Write Cell)) = refl
case-judged (Ok (Read Speed)) = refl
case-judged (Ok (Read Settings)) = refl
case-judged (Ok (Read Cell)) = refl
case-judged (Ok (Card Marin)) = refl
case-judged (Ok (Card Hid)) = refl
case-judged (Ok (Card Motorola)) = refl
case-judged (Err UnknownCode) = refl
case-judged (Err BadData) = refl

pub judgement-injective : (a b : Result Command Fault) → judgement a ≡ judgement b → a ≡ b
judgement-injective = LeftInverse-Injective case_of judgement case-judged

-- so what a call answered is what it says
pub judged-as : {r k : Result Command Fault} (a : Result Command Fault) → judgement r ≡ judgement a → r ≡ k → a ≡ k
judged-as {r} a says told = sym (judgement-injective r a says) ∙ told
