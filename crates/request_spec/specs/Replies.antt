-- What a reply says, and the content that says it.
-- 01, The point reader, the table and the paragraph below it; 001, 'Кадры ответа ACK/NACK'. Assumes nothing.
use Rattle.std.specs.Prelude.{ℕ, List, [], ◌∷◌, get_or, drop}

-- ACK, NACK with its number, or data
pub data Reply : Type 0 where
  ACK : Reply
  NACK : ℕ → Reply
  DATA : List ℕ → Reply

-- ACK and NACK frames carry 2A in place of the command
abbrev pub sign : ℕ
sign = 0x2A

abbrev pub command_in : ℕ → Reply → ℕ
command_in code ACK = sign
command_in code (NACK n) = sign
command_in code (DATA bytes) = code

-- and one byte: 55 for ACK, else the NACK number
abbrev pub ack_byte : ℕ
ack_byte = 0x55

abbrev pub data_in : Reply → List ℕ
data_in ACK = ack_byte ∷ []
data_in (NACK n) = n ∷ []
data_in (DATA bytes) = bytes

-- two numbers that no request's fault has: the check was wrong; there is no card
abbrev pub wrong_check : ℕ
wrong_check = 1

abbrev pub no_card : ℕ
no_card = 6

-- 01, Layout of a frame, of a content without check: identifier, command, and the data part from the third byte on
abbrev pub identifier_of : List ℕ → ℕ
identifier_of front = get_or front 0 0

abbrev pub command_of : List ℕ → ℕ
command_of front = get_or front 1 0

abbrev pub data_of : List ℕ → List ℕ
data_of front = drop 2 front

-- the content without check of the reply to a request with this identifier and code
abbrev pub front_of : ℕ → ℕ → Reply → List ℕ
front_of identifier code reply = identifier ∷ command_in code reply ∷ data_in reply
