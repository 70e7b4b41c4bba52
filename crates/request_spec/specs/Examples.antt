-- Worked examples of acceptance, the typed writer, the header and the master, as rows of one table. The claim is that each holds;
-- `proofs/Laws/Examples` proves it. 01, Bench examples, The point reader, Layout of a frame, of numbers, 'Master's side', and Refusal numbers,
-- rows 5 to 9. Assumes nothing.
use Rattle.std.specs.Prelude.{ℕ, ◌≡◌, true, Bool, false, List, [], ◌∷◌, ◌++◌, replicate}
use Rattle.std.proofs.Math.Option.{Option, none, some}
use Rattle.ground.specs.declared.refusal.Refusal.TheVariants.{BadRequest}
use Rattle.wire_spec.specs.Writing.{not_written}
use Rattle.request_spec.specs.declared.command.Card.{Card}
use Rattle.request_spec.specs.declared.command.Card.TheVariants.{Marin, Hid, Motorola}
use Rattle.request_spec.specs.Cards.{is_code, code_number}
use Rattle.request_spec.specs.Acceptance.{acceptance, is_accepted}
use Rattle.request_spec.specs.Header.{header}
use Rattle.request_spec.specs.Replies.{Reply, ACK, NACK, DATA}
use Rattle.request_spec.specs.Requesting.{request_written}
use Rattle.request_spec.specs.Reading.{reply_read}

pub data Example : Type 0 where
  -- this code and data are accepted
  accepts : (code : ℕ) («data» : List ℕ) → Example
  -- the writer of requests refuses this, whatever the room
  bad_request : (identifier code : ℕ) («data» out : List ℕ) → Example
  -- an antenna's answer for a card may have this many bytes, or not
  codes : (card : Card) (count : ℕ) (is : Bool) → Example
  -- the code in an antenna's answer for a card stands for this number
  stands : (card : Card) (answer : List ℕ) (number : ℕ) → Example
  -- a device's name and numbers laid out
  lays : (name : List ℕ) (kind version protocol serial flags : ℕ) (printed : List ℕ) → Example
  -- the master that asked this, and gets this reply, refuses or reads
  reads : (identifier code : ℕ) («data» reply : List ℕ) (refusal : ℕ) (meaning : Option Reply) → Example

abbrev pub Holds : Example → Type 0
Holds (accepts code «data») = is_accepted (acceptance code «data») ≡ true
Holds (bad_request identifier code «data» out) = request_written identifier code «data» out ≡ not_written BadRequest out
Holds (codes card count is) = is_code card count ≡ is
Holds (stands card answer number) = code_number card answer ≡ number
Holds (lays name kind version protocol serial flags printed) = header name kind version protocol serial flags ≡ printed
Holds (reads identifier code «data» reply refusal meaning) =
    reply_read identifier code «data» reply ≡ record { refusal = refusal; meaning = meaning }

abbrev pub examples : List Example
examples =
    -- speeds 2, 3, 10, 11; BadRequest before NoRoom
    bad_request 0x00 0x01 (0x02 ∷ 2 ∷ []) []
    ∷ accepts 0x01 (0x02 ∷ 3 ∷ [])
    ∷ accepts 0x01 (0x02 ∷ 10 ∷ [])
    ∷ bad_request 0x00 0x01 (0x02 ∷ 11 ∷ []) []
    -- a value, a parameter that exists, a code that does not
    ∷ accepts 0x01 (0x05 ∷ 1 ∷ 2 ∷ 3 ∷ 4 ∷ [])
    ∷ accepts 0x02 (0x80 ∷ [])
    ∷ bad_request 0x00 0x03 [] []
    -- 4, 5 and 6 bytes of a Motorola card
    ∷ codes Motorola 4 false
    ∷ codes Motorola 5 true
    ∷ codes Motorola 6 false
    -- a card's code high byte first, of an HID card after its type, here Wiegand 26
    ∷ stands Marin (0x00 ∷ 0x00 ∷ 0x01 ∷ []) 1
    ∷ stands Marin (0x12 ∷ 0x34 ∷ 0x56 ∷ 0x78 ∷ 0x9A ∷ []) 0x123456789A
    ∷ stands Hid (26 ∷ 0x12 ∷ 0x34 ∷ 0x56 ∷ 0x78 ∷ 0x9A ∷ []) 0x123456789A
    ∷ stands Motorola (0x12 ∷ 0x34 ∷ 0x56 ∷ 0x78 ∷ 0x9A ∷ []) 0x123456789A
    -- numbers low byte first, each in its place
    ∷ lays (replicate 20 0x41) 1 2 3 0x12345678 0xFFFFFFFE
    (replicate 20 0x41 ++ (1 ∷ 0 ∷ 0 ∷ 0 ∷ 2 ∷ 0 ∷ 0 ∷ 0 ∷ 3 ∷ 0 ∷ 0 ∷ 0 ∷ 0x78 ∷ 0x56 ∷ 0x34 ∷ 0x12 ∷ 0xFE ∷ 0xFF ∷ 0xFF ∷ 0xFF ∷ []))
    -- to a request to write the speed: ACK; no command; 01 echoed; another identifier; nothing; 2A alone; NACK 6 and 7
    ∷ reads 0x00 0x01 (0x02 ∷ 3 ∷ []) (0x00 ∷ 0x2A ∷ 0x55 ∷ []) 0 (some ACK)
    ∷ reads 0x00 0x01 (0x02 ∷ 3 ∷ []) (0x00 ∷ []) 7 none
    ∷ reads 0x00 0x01 (0x02 ∷ 3 ∷ []) (0x00 ∷ 0x01 ∷ []) 7 none
    ∷ reads 0x00 0x01 (0x02 ∷ 3 ∷ []) (0x01 ∷ 0x2A ∷ 0x55 ∷ []) 6 none
    ∷ reads 0x00 0x01 (0x02 ∷ 3 ∷ []) [] 6 none
    ∷ reads 0x00 0x01 (0x02 ∷ 3 ∷ []) (0x00 ∷ 0x2A ∷ []) 8 none
    ∷ reads 0x00 0x01 (0x02 ∷ 3 ∷ []) (0x00 ∷ 0x2A ∷ 0x06 ∷ []) 0 (some (NACK 6))
    ∷ reads 0x00 0x01 (0x02 ∷ 3 ∷ []) (0x00 ∷ 0x2A ∷ 0x07 ∷ []) 9 none
    -- to a card command: 4, 5 and 6 bytes for 18, 0, 1, 8 and 9 for 10; ACK where data was due; a request that no reader accepts
    ∷ reads 0x00 0x18 [] (0x00 ∷ 0x18 ∷ replicate 4 1) 8 none
    ∷ reads 0x00 0x18 [] (0x00 ∷ 0x18 ∷ replicate 5 1) 0 (some (DATA (replicate 5 1)))
    ∷ reads 0x00 0x18 [] (0x00 ∷ 0x18 ∷ replicate 6 1) 8 none
    ∷ reads 0x00 0x10 [] (0x00 ∷ 0x10 ∷ []) 8 none
    ∷ reads 0x00 0x10 [] (0x00 ∷ 0x10 ∷ replicate 1 1) 0 (some (DATA (replicate 1 1)))
    ∷ reads 0x00 0x10 [] (0x00 ∷ 0x10 ∷ replicate 8 1) 0 (some (DATA (replicate 8 1)))
    ∷ reads 0x00 0x10 [] (0x00 ∷ 0x10 ∷ replicate 9 1) 8 none
    ∷ reads 0x00 0x10 [] (0x00 ∷ 0x2A ∷ 0x55 ∷ []) 9 none
    ∷ reads 0x00 0x03 [] (0x00 ∷ 0x2A ∷ 0x02 ∷ []) 5 none
    ∷ []
