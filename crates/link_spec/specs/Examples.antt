-- The worked examples of document 01 that are marked P, and some more of the writers and the receiver, as rows of one table. The claim is
-- that each holds; `proofs/Laws/Examples` proves it. 01, Bench examples. Assumes nothing.
use Rattle.std.specs.Prelude.{ℕ, ◌≡◌, true, Some, List, [], ◌∷◌, ◌++◌, replicate, drop}
use Rattle.checks.specs.declared.kind.Check.{Check}
use Rattle.checks.specs.declared.kind.Check.TheVariants.{Fcs, Sum}
use Rattle.checks.specs.Check.{with_check, is_right}
use Rattle.wire_spec.specs.Stuffing.{stuffing}
use Rattle.wire_spec.specs.Image.{image}
use Rattle.link_spec.specs.declared.station.Station.{Station}
use Rattle.link_spec.specs.declared.station.Station.TheVariants.{Point, Addressed}
use Rattle.link_spec.specs.Frame.{point_content, addressed_content}
use Rattle.link_spec.specs.Writers.{point_written, addressed_written}
use Rattle.link_spec.specs.Events.{Name, FRAME, CHECK, SHORT, LONG, PAIR, ADDR, named, verdict}
use Rattle.link_spec.specs.Receiving.{fresh_receiver, received}
use Rattle.link_spec.specs.Hearing.{told_at, tells}

-- an example: what is done, and what the paper prints for it
pub data Example : Type 0 where
  point_image : (identifier command : ℕ) («data» printed : List ℕ) → Example
  addressed_image : (address identifier command : ℕ) («data» printed : List ℕ) → Example
  stuffs : (content printed : List ℕ) → Example
  -- what a writer answers that is lent this much room
  point_writes : (identifier command : ℕ) («data» : List ℕ) (room refusal count : ℕ) → Example
  addressed_writes : (address identifier command : ℕ) («data» : List ℕ) (room refusal count : ℕ) → Example
  right_check : (check : Check) (content : List ℕ) → Example
  -- a stop byte after this content tells this
  stops : (check : Check) (content : List ℕ) (event : Name) → Example
  -- to a fresh receiver the stream tells this first
  hears : (station : Station) (stream : List ℕ) (place : ℕ) (event : Name) (content : List ℕ) → Example
  -- and this next, to a second call that continues where the first stopped
  hears_next : (station : Station) (stream : List ℕ) (place : ℕ) (event : Name) (content : List ℕ) → Example

abbrev pub Holds : Example → Type 0
Holds (point_image identifier command «data» printed) = image (point_content identifier command «data») ≡ printed
Holds (addressed_image address identifier command «data» printed) = image (addressed_content address identifier command «data») ≡ printed
Holds (stuffs content printed) = stuffing content ≡ printed
Holds (point_writes identifier command «data» room refusal count) =
    (point_written identifier command «data» (replicate room 0)).tally ≡ record { refusal = refusal; count = count }
Holds (addressed_writes address identifier command «data» room refusal count) =
    (addressed_written address identifier command «data» (replicate room 0)).tally ≡ record { refusal = refusal; count = count }
Holds (right_check check content) = is_right check content ≡ true
Holds (stops check content event) = named (Some (verdict check content).event) ≡ event
Holds (hears station stream place event content) = tells 0 (received (fresh_receiver station) stream) ≡ told_at place event content ∷ []
Holds (hears_next station stream place event content) =
    let first = received (fresh_receiver station) stream in
    tells first.taken (received first.receiver (drop first.taken stream)) ≡ told_at place event content ∷ []

abbrev master : Station
master = Addressed 0x00

abbrev pub examples : List Example
examples =
    -- P1, P2, P3: images from 001
    point_image 0x00 0x00 [] (0xFD ∷ 0x00 ∷ 0x00 ∷ 0x47 ∷ 0x0F ∷ 0xFE ∷ [])
    ∷ point_image 0x00 0x2A (0x55 ∷ []) (0xFD ∷ 0x00 ∷ 0x2A ∷ 0x55 ∷ 0xA7 ∷ 0x1D ∷ 0xFE ∷ [])
    ∷ point_image 0x00 0x2A (0x02 ∷ []) (0xFD ∷ 0x00 ∷ 0x2A ∷ 0x02 ∷ 0x9D ∷ 0x3B ∷ 0xFE ∷ [])
    -- P4: addressed 05, id 01, command 10
    ∷ addressed_image 0x05 0x01 0x10 [] (0xFD ∷ 0x05 ∷ 0x01 ∷ 0x10 ∷ 0x16 ∷ 0xFE ∷ [])
    -- P5: same with id FD
    ∷ addressed_image 0x05 0xFD 0x10 [] (0xFD ∷ 0x05 ∷ 0xFF ∷ 0x02 ∷ 0x10 ∷ 0x12 ∷ 0xFE ∷ [])
    -- P6: address 01, id EC, command 10
    ∷ addressed_image 0x01 0xEC 0x10 [] (0xFD ∷ 0x01 ∷ 0xEC ∷ 0x10 ∷ 0xFF ∷ 0x02 ∷ 0xFE ∷ [])
    -- P12: FD FE FF stuffs to FF 02 FF 01 FF 00
    ∷ stuffs (0xFD ∷ 0xFE ∷ 0xFF ∷ []) (0xFF ∷ 0x02 ∷ 0xFF ∷ 0x01 ∷ 0xFF ∷ 0x00 ∷ [])
    -- room 6 and 5 for P1
    ∷ point_writes 0x00 0x00 [] 6 0 6
    ∷ point_writes 0x00 0x00 [] 5 1 0
    -- data 60 and 61; TooLong before BadAddress before NoRoom
    ∷ point_writes 0x00 0x10 (replicate 61 0x11) 66 2 0
    ∷ addressed_writes 0x05 0x01 0x10 (replicate 60 0x11) 66 0 66
    ∷ addressed_writes 0xFD 0x01 0x10 (replicate 61 0x11) 0 2 0
    ∷ addressed_writes 0xFD 0x01 0x10 (replicate 60 0x11) 0 3 0
    ∷ addressed_writes 0xFC 0x01 0x10 (replicate 60 0x11) 0 1 0
    -- P7: SHORT, though its check is right
    ∷ hears Point (0xFD ∷ 0x00 ∷ 0x00 ∷ 0xFE ∷ []) 4 SHORT []
    ∷ right_check Fcs (0x00 ∷ 0x00 ∷ [])
    -- 4 content bytes are enough for a frame, 3 are not though their check is right, and a wrong check is CHECK
    ∷ stops Sum (0x00 ∷ 0x01 ∷ 0x10 ∷ 0x11 ∷ []) FRAME
    ∷ stops Sum (0x00 ∷ 0x01 ∷ 0x01 ∷ []) SHORT
    ∷ stops Sum (0x00 ∷ 0x01 ∷ 0x10 ∷ 0x12 ∷ []) CHECK
    -- P8: PAIR at the third byte
    ∷ hears Point (0xFD ∷ 0xFF ∷ 0xFE ∷ []) 3 PAIR []
    -- P9: ADDR at the second byte
    ∷ hears master (0xFD ∷ 0x05 ∷ []) 2 ADDR []
    -- P10: one FRAME
    ∷ hears Point (0xFD ∷ 0xFD ∷ 0x00 ∷ 0x00 ∷ 0x47 ∷ 0x0F ∷ 0xFE ∷ []) 7 FRAME (0x00 ∷ 0x00 ∷ [])
    -- a frame after another, and one after what is no frame
    ∷ hears_next Point (0xFD ∷ 0x00 ∷ 0x00 ∷ 0x47 ∷ 0x0F ∷ 0xFE ∷ 0xFD ∷ 0x00 ∷ 0x00 ∷ 0x47 ∷ 0x0F ∷ 0xFE ∷ []) 12 FRAME (0x00 ∷ 0x00 ∷ [])
    ∷ hears_next master (0xFD ∷ 0x05 ∷ 0xFD ∷ 0x00 ∷ 0x01 ∷ 0x10 ∷ 0x11 ∷ 0xFE ∷ []) 8 FRAME (0x00 ∷ 0x01 ∷ 0x10 ∷ [])
    -- P11: CHECK
    ∷ hears Point (0xFD ∷ 0x00 ∷ 0x00 ∷ 0x47 ∷ 0x0E ∷ 0xFE ∷ []) 6 CHECK (0x00 ∷ 0x00 ∷ [])
    -- a reader takes its own address, and no other reader's
    ∷ hears (Addressed 0x05) (0xFD ∷ 0x05 ∷ 0x01 ∷ 0x10 ∷ 0x16 ∷ 0xFE ∷ []) 6 FRAME (0x05 ∷ 0x01 ∷ 0x10 ∷ [])
    ∷ hears (Addressed 0x05) (0xFD ∷ 0x06 ∷ []) 2 ADDR []
    -- 7F reaches every reader, and not the master
    ∷ hears (Addressed 0x05) (0xFD ∷ 0x7F ∷ 0x01 ∷ 0x10 ∷ 0x90 ∷ 0xFE ∷ []) 6 FRAME (0x7F ∷ 0x01 ∷ 0x10 ∷ [])
    ∷ hears master (0xFD ∷ 0x7F ∷ []) 2 ADDR []
    -- FF is no address, and waits for no partner there; FE is a stop there; a wrong sum
    ∷ hears master (0xFD ∷ 0xFF ∷ []) 2 ADDR []
    ∷ hears master (0xFD ∷ 0xFE ∷ []) 2 SHORT []
    ∷ hears master (0xFD ∷ 0x00 ∷ 0x01 ∷ 0x10 ∷ 0x12 ∷ 0xFE ∷ []) 6 CHECK (0x00 ∷ 0x01 ∷ 0x10 ∷ [])
    -- content 64 passes, plain and stuffed: 62 bytes before the FCS, and 62 between address and sum
    ∷ hears Point (image (with_check Fcs (replicate 62 0x11))) 66 FRAME (replicate 62 0x11)
    ∷ hears Point (image (with_check Fcs (replicate 62 0xFF))) 128 FRAME (replicate 62 0xFF)
    ∷ hears master (image (with_check Sum (0x00 ∷ replicate 62 0x11))) 66 FRAME (0x00 ∷ replicate 62 0x11)
    ∷ hears master (image (with_check Sum (0x00 ∷ replicate 62 0xFF))) 128 FRAME (0x00 ∷ replicate 62 0xFF)
    -- with one byte more it is LONG, at the last wire byte of the 65th
    ∷ hears Point (image (with_check Fcs (replicate 63 0x11))) 66 LONG []
    ∷ hears Point (image (with_check Fcs (replicate 63 0xFF))) 129 LONG []
    ∷ hears master (image (with_check Sum (0x00 ∷ replicate 63 0x11))) 66 LONG []
    ∷ hears master (image (with_check Sum (0x00 ∷ replicate 63 0xFF))) 129 LONG []
    -- also where the 65th is itself stuffed; without a partner it is PAIR
    ∷ hears Point (0xFD ∷ replicate 64 0x11 ++ (0xFF ∷ 0x00 ∷ [])) 67 LONG []
    ∷ hears master (0xFD ∷ 0x00 ∷ replicate 63 0x11 ++ (0xFF ∷ 0x00 ∷ [])) 67 LONG []
    ∷ hears Point (0xFD ∷ replicate 64 0x11 ++ (0xFF ∷ 0xFE ∷ [])) 67 PAIR []
    ∷ []
