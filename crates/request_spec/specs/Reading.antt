-- What the master reads in a reply's content without check.
-- 01, 'Master's side', and Refusal numbers, rows 5 to 9. Assumes nothing.
use Rattle.std.specs.Prelude.{ℕ, ◌≤◌, ◌≡◌, Bool, true, false, cond, ◌&&◌, ◌||◌, not, List, [], ◌∷◌, eqb, leb, length, get_or, Result, Ok, Err}
use Rattle.std.proofs.Math.Option.{Option, none, some}
use Rattle.ground.specs.declared.refusal.Refusal.{Refusal}
use Rattle.ground.specs.declared.refusal.Refusal.TheVariants.{BadRequest, WrongId, WrongCommand, WrongLength, WrongReason}
use Rattle.ground.specs.Refusals.{number}
use Rattle.request_spec.specs.declared.command.Command.{Command}
use Rattle.request_spec.specs.declared.command.Command.TheVariants.{Header, Write, Read, Card}
use Rattle.request_spec.specs.declared.command.Fault.{Fault}
use Rattle.request_spec.specs.declared.reply.Meaning.{Meaning}
use Rattle.request_spec.specs.declared.reply.Meaning.TheVariants.{Ack, Nack, Data}
use Rattle.request_spec.specs.Limits.{header_length}
use Rattle.request_spec.specs.Parameters.{length_of}
use Rattle.request_spec.specs.Cards.{is_code}
use Rattle.request_spec.specs.Acceptance.{acceptance, Accepts}
use Rattle.request_spec.specs.Replies.{Reply, ACK, NACK, DATA, sign, identifier_of, command_of, data_of, ack_byte}

-- what each case means where the reply has this data
abbrev pub as_reply : List ℕ → Meaning → Reply
as_reply «data» Ack = ACK
as_reply «data» (Nack n) = NACK n
as_reply «data» Data = DATA «data»

-- a call's result in the paper's numbers and words; no meaning where the call refused
pub record Understood : Type 0 where
  pub refusal : ℕ
  pub meaning : Option Reply

abbrev pub understood : List ℕ → Result Meaning Refusal → Understood
understood «data» (Ok meaning) = record { refusal = 0; meaning = some (as_reply «data» meaning) }
understood «data» (Err why) = record { refusal = number why; meaning = none }

abbrev pub not_read : Refusal → Understood
not_read why = record { refusal = number why; meaning = none }

abbrev pub has_read : Reply → Understood
has_read reply = record { refusal = 0; meaning = some reply }

-- ACK answers 01 only
abbrev pub is_write : Command → Bool
is_write Header = false
is_write (Write p) = true
is_write (Read p) = false
is_write (Card card) = false

-- data answers the other codes only, with the lengths above (10 and 14: 1 to 8)
abbrev pub is_due : Command → ℕ → Bool
is_due Header n = eqb n header_length
is_due (Write p) n = false
is_due (Read p) n = eqb n (length_of p)
is_due (Card card) n = is_code card n

-- row 8: data length not as above
unfoldable pub data_read : Command → List ℕ → Understood
data_read command «data» = cond (is_due command (length «data»)) (has_read (DATA «data»)) (not_read WrongLength)

-- NACK with number 1..6
abbrev pub is_nack : ℕ → Bool
is_nack reason = leb 1 reason && leb reason 6

-- row 9: 2A byte not 55 or 1..6, or 55 where data was due
unfoldable pub reason_read : Command → ℕ → Understood
reason_read command reason =
    cond (eqb reason ack_byte) (cond (is_write command) (has_read ACK) (not_read WrongReason))
    (cond (is_nack reason) (has_read (NACK reason)) (not_read WrongReason))

-- row 8: for 2A not one byte
unfoldable pub sign_read : Command → List ℕ → Understood
sign_read command «data» = cond (eqb (length «data») 1) (reason_read command (get_or «data» 0 0)) (not_read WrongLength)

-- row 6: reply identifier differs, or the content is empty
abbrev pub wrong_id : ℕ → List ℕ → Bool
wrong_id identifier reply = eqb (length reply) 0 || not (eqb (identifier_of reply) identifier)

abbrev pub is_sign : List ℕ → Bool
is_sign reply = eqb (command_of reply) sign

-- row 7: command byte absent, or neither 2A nor the request's, or 01 echoed
abbrev pub wrong_command : ℕ → List ℕ → Bool
wrong_command code reply = eqb (length reply) 1 || not (is_sign reply || eqb (command_of reply) code && not (eqb code 0x01))

-- 'Order': 6, 7, 8, 9
unfoldable pub read_as : ℕ → ℕ → List ℕ → Command → Understood
read_as identifier code reply command =
    cond (wrong_id identifier reply) (not_read WrongId)
    (cond (wrong_command code reply) (not_read WrongCommand)
    (cond (is_sign reply) (sign_read command (data_of reply)) (data_read command (data_of reply))))

-- and before them row 5: a request that step 4 or 5 would refuse of every reader, also of a fast one (02, L2)
abbrev pub read_by : ℕ → ℕ → List ℕ → Result Command Fault → Understood
read_by identifier code reply (Ok command) = read_as identifier code reply command
read_by identifier code reply (Err fault) = not_read BadRequest

unfoldable pub reply_read : ℕ → ℕ → List ℕ → List ℕ → Understood
reply_read identifier code «data» reply = read_by identifier code reply (acceptance code «data»)

-- ---- the same as a table

-- how many bytes of data answer a request with this code and data: the lengths of the table in 'The point reader' (10 and 14: 1 to 8)
pub data Due : ℕ → List ℕ → ℕ → Type 0 where
  for_header : Due 0x00 [] 40
  for_speed : Due 0x02 (0x02 ∷ []) 1
  for_settings : Due 0x02 (0x05 ∷ []) 4
  for_cell : Due 0x02 (0x80 ∷ []) 8
  for_marin : {n : ℕ} → 1 ≤ n → n ≤ 8 → Due 0x10 [] n
  for_hid : {n : ℕ} → 1 ≤ n → n ≤ 8 → Due 0x14 [] n
  for_motorola : Due 0x18 [] 5

-- what is read in a reply to a request with this identifier, code and data: rows 6 to 9, and the reply where none of them applies
pub data ByReply (identifier code : ℕ) («data» : List ℕ) : List ℕ → Understood → Type 0 where
  -- 6: reply identifier differs, or the content is empty
  empty : ByReply identifier code «data» [] (not_read WrongId)
  other_identifier : {b : ℕ} {more : List ℕ} → (b ≡ identifier → ⊥) → ByReply identifier code «data» (b ∷ more) (not_read WrongId)
  -- 7: command byte absent, or neither 2A nor the request's, or 01 echoed
  no_command : ByReply identifier code «data» (identifier ∷ []) (not_read WrongCommand)
  other_command : {b : ℕ} {more : List ℕ} → (b ≡ 0x2A → ⊥)
      → (b ≡ code → ⊥)
      → ByReply identifier code «data» (identifier ∷ b ∷ more) (not_read WrongCommand)
  echo : {more : List ℕ} → code ≡ 0x01 → ByReply identifier code «data» (identifier ∷ code ∷ more) (not_read WrongCommand)
  -- 8: data length not as above; for 2A not one byte
  data_length : {bytes : List ℕ} → (code ≡ 0x01 → ⊥)
      → (Due code «data» (length bytes) → ⊥)
      → ByReply identifier code «data» (identifier ∷ code ∷ bytes) (not_read WrongLength)
  sign_length : {bytes : List ℕ} → (length bytes ≡ 1 → ⊥)
      → ByReply identifier code «data» (identifier ∷ 0x2A ∷ bytes) (not_read WrongLength)
  -- 9: 2A byte not 55 or 1..6, or 55 where data was due
  other_reason : {b : ℕ} → (b ≡ 0x55 → ⊥)
      → (1 ≤ b → b ≤ 6 → ⊥)
      → ByReply identifier code «data» (identifier ∷ 0x2A ∷ b ∷ []) (not_read WrongReason)
  ack_for_data : (code ≡ 0x01 → ⊥) → ByReply identifier code «data» (identifier ∷ 0x2A ∷ 0x55 ∷ []) (not_read WrongReason)
  -- ACK, NACK with number 1..6, or data
  ack : code ≡ 0x01 → ByReply identifier code «data» (identifier ∷ 0x2A ∷ 0x55 ∷ []) (has_read ACK)
  nack : {n : ℕ} → 1 ≤ n → n ≤ 6 → ByReply identifier code «data» (identifier ∷ 0x2A ∷ n ∷ []) (has_read (NACK n))
  bytes : {bytes : List ℕ} → Due code «data» (length bytes)
      → ByReply identifier code «data» (identifier ∷ code ∷ bytes) (has_read (DATA bytes))

-- The master's rows of the refusal table, and the reply where no row applies. `Laws.Reading` proves that `reply_read` answers by them,
-- and that they leave it no other answer.
pub data MasterTable (identifier code : ℕ) («data» reply : List ℕ) : Understood → Type 0 where
  -- 5: a request that step 4 or 5 would refuse of every reader
  bad_request : ((command : Command) → Accepts code «data» command → ⊥) → MasterTable identifier code «data» reply (not_read BadRequest)
  acceptable : {command : Command} {answer : Understood} → Accepts code «data» command
      → ByReply identifier code «data» reply answer
      → MasterTable identifier code «data» reply answer
