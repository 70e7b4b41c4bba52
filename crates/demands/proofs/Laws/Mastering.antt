-- The master reads what the reader meant.
-- Assumes nothing.
use mathlib.Core.Path.{◌≡◌, refl, subst⁻¹}
use mathlib.Core.Bool.{false}
use mathlib.Core.List.{List, []}
use Prim.Native.Nat.{ℕ}
use native.Mathlib.Omega.{arith}
use lib.Dec.{eqb}
use lib.ListN.{length}
use borrow.Author.Tests.{eq-eqb}
use Rattle.std.specs.Prelude.{Ok}
use Rattle.request_spec.specs.declared.parameter.Parameter.{Parameter}
use Rattle.request_spec.specs.declared.command.Card.{Card}
use Rattle.request_spec.specs.declared.command.Card.TheVariants.{Marin, Hid, Motorola}
use Rattle.request_spec.specs.declared.command.Command.{Command}
use Rattle.request_spec.specs.Limits.{header_length}
use Rattle.request_spec.specs.Parameters.{length_of}
use Rattle.request_spec.specs.Acceptance as table
use Rattle.request_spec.specs.Acceptance.{acceptance, Accepts}
use Rattle.request_spec.specs.Replies.{Reply, sign, no_card, front_of}
use Rattle.request_spec.specs.Reading.{has_read, reply_read}
use Rattle.request_spec.proofs.Laws.Acceptance.{accepted}
use Rattle.request_spec.proofs.Laws.Reading.{reads-nack, reads-ack, reads-due}
use Rattle.reader_spec.specs.Replies.{reply_to}
use Rattle.reader_spec.proofs.Laws.Replies.{replies-header, replies-ack, replies-value, replies-card}

-- the reply to each request that is executed
module _ (value : Parameter → List ℕ) (sized : (p : Parameter) → length (value p) ≡ length_of p) (identifier : ℕ) (header antenna : List ℕ)
    (whole : length header ≡ header_length) where
  abbrev Reads : ℕ → List ℕ → Reply → Type 0
  Reads code «data» reply = reply_read identifier code «data» (front_of identifier code reply) ≡ has_read reply

  reads-card : (code : ℕ) (card : Card) → acceptance code [] ≡ Ok (Command.Card card) → eqb code sign ≡ false → eqb code 0x01 ≡ false
      → Reads code [] (reply_to value (Command.Card card) header antenna)
  reads-card code card asked plain other =
      replies-card value header antenna (Reads code []) card (reads-due identifier code [] (Command.Card card) asked antenna plain other)
      (λ _. reads-nack identifier code [] (Command.Card card) asked no_card (omega arith) (omega arith))

  pub master-reads : {code : ℕ} {«data» : List ℕ} {command : Command} → Accepts code «data» command
      → Reads code «data» (reply_to value command header antenna)
  master-reads table.header =
      subst⁻¹ (Reads 0x00 []) (replies-header value header antenna)
      (reads-due identifier 0x00 [] Command.Header (accepted table.header) header refl refl (eq-eqb (length header) header_length whole))
  master-reads {«data» = «data»} (table.write p bytes taken) =
      subst⁻¹ (Reads 0x01 «data») (replies-ack value header antenna p)
      (reads-ack identifier 0x01 «data» (Command.Write p) (accepted (table.write p bytes taken)) refl)
  master-reads {«data» = «data»} (table.read p) =
      subst⁻¹ (Reads 0x02 «data») (replies-value value header antenna p)
      (reads-due identifier 0x02 «data» (Command.Read p) (accepted (table.read p)) (value p) refl refl
      (eq-eqb (length (value p)) (length_of p) (sized p)))
  master-reads table.marin = reads-card 0x10 Marin (accepted table.marin) refl refl
  master-reads table.hid = reads-card 0x14 Hid (accepted table.hid) refl refl
  master-reads table.motorola = reads-card 0x18 Motorola (accepted table.motorola) refl refl
