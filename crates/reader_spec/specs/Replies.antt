-- What a reader replies, and the frame that says it.
-- 01, The point reader, the table and the paragraph below it; 001, 'Кадры ответа ACK/NACK'. Assumes nothing.
use Rattle.std.specs.Prelude.{ℕ, ◌≡◌, cond, List, length}
use Rattle.wire_spec.specs.Image.{image}
use Rattle.link_spec.specs.Frame.{point_content}
use Rattle.request_spec.specs.declared.parameter.Parameter.{Parameter}
use Rattle.request_spec.specs.declared.command.Command.{Command}
use Rattle.request_spec.specs.declared.command.Command.TheVariants.{Header, Write, Read, Card}
use Rattle.request_spec.specs.Cards.{is_code}
use Rattle.request_spec.specs.Replies.{Reply, ACK, NACK, DATA, command_in, data_in, no_card}

-- a reply's content with its check, and its frame's whole image
abbrev pub reply_content : ℕ → ℕ → Reply → List ℕ
reply_content identifier code reply = point_content identifier (command_in code reply) (data_in reply)

abbrev pub reply_image : ℕ → ℕ → Reply → List ℕ
reply_image identifier code reply = image (reply_content identifier code reply)

-- the third column of the table, where the parameters have these values: the header; ACK; the value; the antenna's bytes as they come,
-- or NACK 6 for no card and for a number of bytes that is not the card's
unfoldable pub reply_to : (Parameter → List ℕ) → Command → List ℕ → List ℕ → Reply
reply_to value Header header antenna = DATA header
reply_to value (Write p) header antenna = ACK
reply_to value (Read p) header antenna = DATA (value p)
reply_to value (Card card) header antenna = cond (is_code card (length antenna)) (DATA antenna) (NACK no_card)

-- ACK, NACK 6 or data: never NACK 2 or 3
abbrev pub IsAnswer : Reply → Type 0
IsAnswer ACK = Unit {0}
IsAnswer (NACK n) = n ≡ no_card
IsAnswer (DATA bytes) = Unit {0}
