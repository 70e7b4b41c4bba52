-- A call's statement leaves no choice: two results that it allows are equal. docs/STATEMENTS.md cites one of these, or one of
-- ground's or wire_spec's, for each call.
-- Assumes nothing.
use mathlib.Core.Path.{◌≡◌, refl, sym, ap, ◌∙◌}
use mathlib.Core.List.{List}
use mathlib.Core.Option.{Option, none, some}
use Prim.Native.Nat.{ℕ}
use Rattle.std.specs.Prelude.{Result, Ok, Err}
use Rattle.ground.specs.declared.refusal.Refusal.{Refusal}
use Rattle.ground.proofs.Laws.Refusals.{number-some}
use Rattle.ground.proofs.Laws.Unique.{same, err-injective}
use Rattle.request_spec.specs.declared.reply.Meaning.{Meaning}
use Rattle.request_spec.specs.declared.reply.Meaning.TheVariants.{Ack, Nack, Data}
use Rattle.request_spec.specs.Replies.{Reply, ACK, NACK, DATA}
use Rattle.request_spec.specs.Reading.{as_reply, Understood, understood}

-- what a reply with this data means is one case
abbrev case_of : Option Reply → Meaning
case_of none = Data
case_of (some ACK) = Ack
case_of (some (NACK n)) = Nack n
case_of (some (DATA bytes)) = Data

case-meant : («data» : List ℕ) (m : Meaning) → case_of (some (as_reply «data» m)) ≡ m
case-meant «data» Ack = refl
case-meant «data» (Nack n) = refl
case-meant «data» Data = refl

understood-injective : («data» : List ℕ) (r s : Result Meaning Refusal) → understood «data» r ≡ understood «data» s → r ≡ s
understood-injective «data» (Ok m) (Ok n) e =
    sym (ap Ok (case-meant «data» m)) ∙ ap (λ (t : Understood). Ok (case_of t.meaning)) e ∙ ap Ok (case-meant «data» n)
understood-injective «data» (Ok m) (Err w) e = absurd (number-some w (sym (ap (λ (t : Understood). t.refusal) e)))
understood-injective «data» (Err v) (Ok n) e = absurd (number-some v (ap (λ (t : Understood). t.refusal) e))
understood-injective «data» (Err v) (Err w) e = err-injective v w (ap (λ (t : Understood). t.refusal) e)

-- of the master's reading
pub same-reading : («data» : List ℕ) {r s : Result Meaning Refusal} {t : Understood} → understood «data» r ≡ t → understood «data» s ≡ t
    → r ≡ s
same-reading «data» {r} {s} p q = understood-injective «data» r s (same p q)
