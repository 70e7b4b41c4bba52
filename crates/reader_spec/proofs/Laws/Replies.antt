-- A reply's frame fits the buffers that a reader is lent; and what is replied to each command.
-- Assumes nothing.
use mathlib.Core.Path.{◌≡◌, refl}
use mathlib.Core.Bool.{true, false}
use mathlib.Core.List.{List}
use Prim.Native.Nat.{ℕ, ◌≤◌}
use native.Mathlib.Omega.{arith}
use lib.ListN.{length}
use Rattle.ground.proofs.Laws.Choice.{cond-elim}
use Rattle.wire_spec.specs.Image.{image}
use Rattle.wire_spec.proofs.Laws.Image.{room-for-any}
use Rattle.link_spec.specs.Limits.{most_data}
use Rattle.link_spec.specs.Frame.{point_content}
use Rattle.link_spec.proofs.Laws.Frame.{length-point}
use Rattle.request_spec.specs.declared.parameter.Parameter.{Parameter}
use Rattle.request_spec.specs.declared.command.Card.{Card}
use Rattle.request_spec.specs.declared.command.Command.{Command}
use Rattle.request_spec.specs.Cards.{is_code}
use Rattle.request_spec.specs.Replies.{Reply, ACK, NACK, DATA, no_card}
use Rattle.reader_spec.specs.Limits.{room}
use Rattle.reader_spec.specs.Replies.{reply_to, IsAnswer}

-- no frame with data within the limit is longer than the room
pub point-room : (identifier command : ℕ) («data» : List ℕ) → length «data» ≤ most_data
    → length (image (point_content identifier command «data»)) ≤ room
point-room identifier command «data» fits =
    room-for-any (point_content identifier command «data») (omega (arith, length-point identifier command «data»))

-- the third column of the table, command by command
module _ (value : Parameter → List ℕ) (header antenna : List ℕ) where
  pub replies-header : reply_to value Command.Header header antenna ≡ DATA header
  unfolding reply_to
  replies-header = refl

  pub replies-ack : (p : Parameter) → reply_to value (Command.Write p) header antenna ≡ ACK
  unfolding reply_to
  replies-ack p = refl

  pub replies-value : (p : Parameter) → reply_to value (Command.Read p) header antenna ≡ DATA (value p)
  unfolding reply_to
  replies-value p = refl

  pub replies-card : (P : Reply → Type 0) (card : Card) → (is_code card (length antenna) ≡ true → P (DATA antenna))
      → (is_code card (length antenna) ≡ false → P (NACK no_card))
      → P (reply_to value (Command.Card card) header antenna)
  unfolding reply_to
  replies-card P card whole none = cond-elim P (is_code card (length antenna)) whole none

-- a command that is executed is answered ACK, NACK 6 or data
pub executed-answer : (value : Parameter → List ℕ) (command : Command) (header antenna : List ℕ)
    → IsAnswer (reply_to value command header antenna)
unfolding reply_to
executed-answer value Command.Header header antenna = tt
executed-answer value (Command.Write p) header antenna = tt
executed-answer value (Command.Read p) header antenna = tt
executed-answer value (Command.Card card) header antenna = replies-card value header antenna IsAnswer card (λ _. tt) (λ _. refl)
