-- Worked examples of the reader, as rows of one table. The claim is that each holds; `proofs/Laws/Examples` proves it. 01, Bench examples,
-- The point reader, Refusal numbers, rows 1, 2, 4 and 5, and Mistakes that come easily; 02, L2. Assumes nothing.
use Rattle.std.specs.Prelude.{ℕ, ◌≡◌, Bool, true, false, List, [], ◌∷◌, ◌++◌, replicate}
use Rattle.std.proofs.Math.Option.{Option, none, some}
use Rattle.link_spec.specs.Events.{Name, FRAME, CHECK, SHORT}
use Rattle.request_spec.specs.declared.parameter.Parameter.TheVariants.{Speed}
use Rattle.request_spec.specs.Replies.{Reply, ACK, NACK, DATA}
use Rattle.reader_spec.specs.declared.reader.Parameters.{Parameters}
use Rattle.reader_spec.specs.Limits.{room, least_front, most_front}
use Rattle.reader_spec.specs.Parameters.{fresh_parameters, with_value}
use Rattle.reader_spec.specs.State.{Last, last_of, State, state_with, fresh_state}
use Rattle.reader_spec.specs.Sending.{BufferName, OUT, STORE, Buffers, buffers_of, sent}
use Rattle.reader_spec.specs.Answering.{input_of, powered_on, Answered, answered}
use Rattle.reader_spec.specs.Sessions.{begun, reply_due}

-- what a user sees of a call: the refusal, the buffer, the bytes to send, and the reader's speed, whether it is fast, and what it remembers then
pub record Seen : Type 0 where
  pub refusal : ℕ
  pub buffer : BufferName
  pub bytes : List ℕ
  pub speed : ℕ
  pub fast : Bool
  pub last : Option Last

abbrev pub seen_with : ℕ → BufferName → List ℕ → State → Seen
seen_with refusal buffer bytes s =
    record { refusal = refusal; buffer = buffer; bytes = bytes; speed = s.parameters.speed; fast = s.fast; last = s.last }

abbrev pub seen : Answered → Seen
seen a = seen_with a.refusal a.buffer (sent a.buffer a.length a.left) a.state

-- what happens to a reader: it hears a frame with this content, or is powered on
pub data Act : Type 0 where
  frame : (content : List ℕ) → Act
  power : Act

pub data Example : Type 0 where
  -- what is due from a fresh reader, a fast one here and in the next two rows, that hears this, with this antenna's answer; none where it has no
  -- answer
  means : (event : Name) (content antenna : List ℕ) (reply : Option Reply) → Example
  -- it answers this code and data with the NACK of this number
  nacks : (code : ℕ) («data» : List ℕ) (nack : ℕ) → Example
  -- one call on a reader that remembers this, lent so much store and out, all EE: what is seen of it
  answers : (last : Option Last) (event : Name) (content antenna : List ℕ) (store out : ℕ)
      (refusal : ℕ) (buffer : BufferName) (bytes : List ℕ) (left : Option Last) → Example
  -- a reader with this speed and memory powered on: the refusal, and the speed and memory then
  powers : (fast : Bool) (speed : ℕ) (last : Option Last) (refusal after : ℕ) (left : Option Last) → Example
  -- a call on a reader with this speed: its refusal
  refuses : (fast : Bool) (speed refusal : ℕ) → Example
  -- all this happens to a fresh reader in turn, and so much is seen of each; a power-on sends nothing
  lives : (fast : Bool) (acts : List Act) (all : List Seen) → Example
  -- so many bytes of a buffer sent
  parts : (buffer : BufferName) (count : ℕ) (store out printed : List ℕ) → Example
  -- a limit is this number
  counts : (limit number : ℕ) → Example

-- the bytes 00, 01, .. 27
abbrev device : List ℕ
device =
    0x00 ∷ 0x01 ∷ 0x02 ∷ 0x03 ∷ 0x04 ∷ 0x05 ∷ 0x06 ∷ 0x07 ∷ 0x08 ∷ 0x09 ∷ 0x0A ∷ 0x0B ∷ 0x0C ∷ 0x0D ∷ 0x0E ∷ 0x0F ∷ 0x10 ∷ 0x11 ∷ 0x12 ∷ 0x13
    ∷ 0x14 ∷ 0x15 ∷ 0x16 ∷ 0x17 ∷ 0x18 ∷ 0x19 ∷ 0x1A ∷ 0x1B ∷ 0x1C ∷ 0x1D ∷ 0x1E ∷ 0x1F ∷ 0x20 ∷ 0x21 ∷ 0x22 ∷ 0x23 ∷ 0x24 ∷ 0x25 ∷ 0x26 ∷ 0x27
    ∷ []

-- parameters that are not those of a fresh reader
abbrev parameters_at : ℕ → Parameters
parameters_at speed = record { speed = speed; settings = replicate 4 5; cell = replicate 8 6 }

abbrev buffers : ℕ → ℕ → Buffers
buffers store out = buffers_of (replicate store 0xEE) (replicate out 0xEE)

unfoldable pub all_seen : State → Buffers → List Act → List Seen
all_seen s lent [] = []
all_seen s lent (frame content ∷ acts) =
    let a = answered s (input_of FRAME content device []) lent in seen a ∷ all_seen a.state a.left acts
all_seen s lent (power ∷ acts) =
    let p = powered_on s in seen_with p.refusal OUT [] p.state ∷ all_seen p.state lent acts

abbrev pub Holds : Example → Type 0
Holds (means event content antenna reply) = reply_due (begun true) (input_of event content device antenna) ≡ reply
Holds (nacks code «data» nack) = reply_due (begun true) (input_of FRAME (0x00 ∷ code ∷ «data») device []) ≡ some (NACK nack)
Holds (answers last event content antenna store out refusal buffer bytes left) =
    seen (answered (state_with fresh_parameters true last) (input_of event content device antenna)
    (buffers store out))
    ≡ seen_with refusal buffer bytes (state_with fresh_parameters true left)
Holds (powers fast speed last refusal after left) =
    powered_on (state_with (parameters_at speed) fast last) ≡ record { refusal = refusal; state = state_with (parameters_at after) fast left }
Holds (refuses fast speed refusal) =
    (answered (state_with (parameters_at speed) fast none) (input_of SHORT [] device []) (buffers room room)).refusal ≡ refusal
Holds (lives fast acts all) = all_seen (fresh_state fast) (buffers room room) acts ≡ all
Holds (parts buffer count store out printed) = sent buffer count (buffers_of store out) ≡ printed
Holds (counts limit number) = limit ≡ number

-- the image of the header's reply with identifier and command 00
abbrev header_image : List ℕ
header_image = 0xFD ∷ 0x00 ∷ 0x00 ∷ device ++ (0x99 ∷ 0x0F ∷ 0xFE ∷ [])

-- the request 07 that writes the speed 9, and the images of its ACK and its NACK 3
abbrev writes_nine : List ℕ
writes_nine = 0x07 ∷ 0x01 ∷ 0x02 ∷ 9 ∷ []

abbrev ack_image : List ℕ
ack_image = 0xFD ∷ 0x07 ∷ 0x2A ∷ 0x55 ∷ 0xA2 ∷ 0x91 ∷ 0xFE ∷ []

abbrev nack_image : List ℕ
nack_image = 0xFD ∷ 0x07 ∷ 0x2A ∷ 0x03 ∷ 0x11 ∷ 0xA6 ∷ 0xFE ∷ []

-- a fresh reader's parameters but for the speed, and the reader that executed such a write
abbrev speed_at : ℕ → Parameters
speed_at speed = with_value fresh_parameters Speed (speed ∷ [])

abbrev written : Bool → ℕ → State
written fast speed = state_with (speed_at speed) fast (some (last_of 0x07 0x01 7))

abbrev pub examples : List Example
examples =
    -- identifier 00, command 00 is no repeat to a fresh reader; the parameters read and the speed written; a code that does not exist; a wrong check; SHORT
    means FRAME (0x00 ∷ 0x00 ∷ []) [] (some (DATA device))
    ∷ means FRAME (0x07 ∷ 0x02 ∷ 0x02 ∷ []) [] (some (DATA (3 ∷ [])))
    ∷ means FRAME (0x07 ∷ 0x02 ∷ 0x05 ∷ []) [] (some (DATA (replicate 4 0)))
    ∷ means FRAME (0x07 ∷ 0x02 ∷ 0x80 ∷ []) [] (some (DATA (replicate 8 0)))
    ∷ means FRAME (0x00 ∷ 0x01 ∷ 0x02 ∷ 3 ∷ []) [] (some ACK)
    ∷ means FRAME (0x00 ∷ 0x03 ∷ []) [] (some (NACK 2))
    ∷ means CHECK (0x00 ∷ 0x00 ∷ []) [] (some (NACK 1))
    ∷ means SHORT [] [] none
    -- no card and a card of 1 byte to 14; 4, 5 and 6 bytes to 18
    ∷ means FRAME (0x00 ∷ 0x14 ∷ []) [] (some (NACK 6))
    ∷ means FRAME (0x00 ∷ 0x14 ∷ []) (0x0C ∷ []) (some (DATA (0x0C ∷ [])))
    ∷ means FRAME (0x00 ∷ 0x18 ∷ []) (replicate 4 1) (some (NACK 6))
    ∷ means FRAME (0x00 ∷ 0x18 ∷ []) (replicate 5 1) (some (DATA (replicate 5 1)))
    ∷ means FRAME (0x00 ∷ 0x18 ∷ []) (replicate 6 1) (some (NACK 6))
    -- speeds 2 and 11
    ∷ nacks 0x01 (0x02 ∷ 2 ∷ []) 3
    ∷ nacks 0x01 (0x02 ∷ 11 ∷ []) 3
    -- a value too short and too long, a parameter that does not exist, data where there is none, a code that does not exist
    ∷ nacks 0x01 (0x05 ∷ 1 ∷ 2 ∷ 3 ∷ []) 3
    ∷ nacks 0x01 (0x80 ∷ replicate 9 1) 3
    ∷ nacks 0x02 (0x03 ∷ []) 3
    ∷ nacks 0x18 (0x00 ∷ []) 3
    ∷ nacks 0x19 [] 2
    -- the header asked of a fresh reader: the reply's image stands in out, and is remembered
    ∷ answers none FRAME (0x00 ∷ 0x00 ∷ []) [] 130 130 0 OUT header_image (some (last_of 0x00 0x00 46))
    -- rooms of 129 and 130
    ∷ answers none FRAME (0x00 ∷ 0x00 ∷ []) [] 129 130 1 OUT [] none
    ∷ answers none FRAME (0x00 ∷ 0x00 ∷ []) [] 130 129 1 OUT [] none
    -- an antenna's answer of 8 and 9 bytes
    ∷ answers none FRAME (0x00 ∷ 0x2B ∷ []) (replicate 8 1) 130 130 0 OUT (0xFD ∷ 0x00 ∷ 0x2A ∷ 0x02 ∷ 0x9D ∷ 0x3B ∷ 0xFE ∷ []) none
    ∷ answers none FRAME (0x00 ∷ 0x2B ∷ []) (replicate 9 1) 130 130 2 OUT [] none
    -- content of 1, 2, 62 and 63 bytes; a code that does not exist, and a wrong check
    ∷ answers none FRAME (0x00 ∷ []) [] 130 130 5 OUT [] none
    ∷ answers none CHECK (0x00 ∷ []) [] 130 130 5 OUT [] none
    ∷ answers none FRAME (replicate 62 0x2B) [] 130 130 0 OUT (0xFD ∷ 0x2B ∷ 0x2A ∷ 0x02 ∷ 0x00 ∷ 0x11 ∷ 0xFE ∷ []) none
    ∷ answers none FRAME (replicate 63 0x2B) [] 130 130 5 OUT [] none
    ∷ answers none CHECK (replicate 63 0x2B) [] 130 130 5 OUT [] none
    ∷ answers none SHORT (replicate 63 0x2B) [] 130 130 0 OUT [] none
    -- a repeat sends the remembered bytes of the store whatever its data, and changes nothing; another identifier is executed, and another command
    ∷ answers (some (last_of 0x07 0x10 3)) FRAME (0x07 ∷ 0x10 ∷ 0x99 ∷ []) (1 ∷ []) 130 130 0 STORE (0xEE ∷ 0xEE ∷ 0xEE ∷ [])
    (some (last_of 0x07 0x10 3))
    ∷ answers (some (last_of 0x07 0x00 3)) FRAME (0x00 ∷ 0x00 ∷ []) [] 130 130 0 OUT header_image (some (last_of 0x00 0x00 46))
    ∷ answers (some (last_of 0x00 0x10 3)) FRAME (0x00 ∷ 0x00 ∷ []) [] 130 130 0 OUT header_image (some (last_of 0x00 0x00 46))
    -- a remembered length of 131 is no state
    ∷ answers (some (last_of 0x07 0x10 131)) FRAME (0x07 ∷ 0x10 ∷ []) [] 130 130 4 OUT [] (some (last_of 0x07 0x10 131))
    -- power-on forgets the last command; a remembered length of 130 and of 131
    ∷ powers true 3 (some (last_of 1 2 130)) 0 3 none
    ∷ powers true 3 (some (last_of 1 2 131)) 4 3 (some (last_of 1 2 131))
    -- at power-on 7 stays, and 8, 9 and 10 become 3; 2 and 11 are no speeds
    ∷ powers true 7 none 0 7 none
    ∷ powers true 8 none 0 3 none
    ∷ powers true 9 none 0 3 none
    ∷ powers true 10 none 0 3 none
    ∷ powers true 11 none 4 11 none
    ∷ powers false 2 none 4 2 none
    -- a slow reader has 7, and not 8
    ∷ powers false 7 none 0 7 none
    ∷ powers false 8 none 4 8 none
    -- the same of a call: a fast reader has 3..10, a slow one 3..7
    ∷ refuses true 2 4
    ∷ refuses true 9 0
    ∷ refuses true 11 4
    ∷ refuses false 7 0
    ∷ refuses false 8 4
    ∷ refuses false 9 4
    ∷ refuses false 10 4
    -- a write of 9 is executed, and repeated; after a power-on the same request is executed again
    ∷ lives true (frame writes_nine ∷ frame writes_nine ∷ power ∷ frame writes_nine ∷ [])
    (seen_with 0 OUT ack_image (written true 9)
    ∷ seen_with 0 STORE ack_image (written true 9)
    ∷ seen_with 0 OUT [] (fresh_state true)
    ∷ seen_with 0 OUT ack_image (written true 9)
    ∷ [])
    -- a slow reader answers it with NACK 3, and does not remember it: the same identifier and command with 7 are executed
    ∷ lives false (frame writes_nine ∷ frame writes_nine ∷ frame (0x07 ∷ 0x01 ∷ 0x02 ∷ 7 ∷ []) ∷ power ∷ [])
    (seen_with 0 OUT nack_image (fresh_state false)
    ∷ seen_with 0 OUT nack_image (fresh_state false)
    ∷ seen_with 0 OUT ack_image (written false 7)
    ∷ seen_with 0 OUT [] (state_with (speed_at 7) false none)
    ∷ [])
    -- some, all and too many bytes of a buffer
    ∷ parts OUT 2 (1 ∷ 2 ∷ 3 ∷ []) (4 ∷ 5 ∷ 6 ∷ []) (4 ∷ 5 ∷ [])
    ∷ parts STORE 3 (1 ∷ 2 ∷ 3 ∷ []) (4 ∷ 5 ∷ 6 ∷ []) (1 ∷ 2 ∷ 3 ∷ [])
    ∷ parts OUT 4 (1 ∷ 2 ∷ 3 ∷ 4 ∷ []) (4 ∷ 5 ∷ 6 ∷ []) []
    -- the limits in the paper's numbers
    ∷ counts room 130
    ∷ counts least_front 2
    ∷ counts most_front 62
    ∷ []
