-- Worked examples of the log, as rows of one table. The claim is that each holds; `proofs/Laws/Examples` proves it. 02, L3; 000, commands 10 to 13.
-- Assumes nothing.
use Rattle.std.specs.Prelude.{ℕ, ◌≡◌, List, [], ◌∷◌, ◌++◌, take, replicate}
use Rattle.link_spec.specs.Events.{Name, NONE, FRAME, CHECK, SHORT, LONG, PAIR, ADDR}
use Rattle.event_log_spec.specs.declared.log.Log.{Log}
use Rattle.event_log_spec.specs.Limits.{most_held, body_length, ring_length, room, least_front, most_front}
use Rattle.event_log_spec.specs.Log.{empty_log}
use Rattle.event_log_spec.specs.Appending.{appended_to}
use Rattle.event_log_spec.specs.Answering.{input_of, answered_to}
use Rattle.event_log_spec.specs.Lots.{Lot, WAITING, DELETED, DROPPED}
use Rattle.event_log_spec.specs.Sessions.{Act, made, given, history_of}

-- what a user sees of an act: the refusal, the bytes sent, and the numbers of the log then
pub record Seen : Type 0 where
  pub refusal : ℕ
  pub bytes : List ℕ
  pub start : ℕ
  pub held : ℕ
  pub waiting : ℕ
  pub next : ℕ

abbrev pub seen_with : ℕ → List ℕ → Log → Seen
seen_with refusal bytes log =
    record { refusal = refusal; bytes = bytes; start = log.start; held = log.held; waiting = log.waiting; next = log.next }

pub data Example : Type 0 where
  -- all this happens to a log in turn, and so much is seen of each
  lives : (log : Log) (acts : List Act) (all : List Seen) → Example
  -- these acts in turn, from an empty log, leave these lots of the entries made
  tells : (acts : List Act) (lots : List Lot) → Example
  -- a limit is this number
  counts : (limit number : ℕ) → Example

unfoldable pub all_seen : Log → List Act → List Seen
all_seen log [] = []
all_seen log (made body ∷ acts) = let a = appended_to log body in seen_with a.refusal [] a.log ∷ all_seen a.log acts
all_seen log (given i out ∷ acts) =
    let a = answered_to log i out in
    seen_with a.after.tally.refusal (take a.after.tally.count a.after.out) a.log ∷ all_seen a.log acts

abbrev pub Holds : Example → Type 0
Holds (lives log acts all) = all_seen log acts ≡ all
Holds (tells acts lots) = (history_of acts).lots ≡ lots
Holds (counts limit number) = limit ≡ number

-- ---- what happens, and what is seen, in short

-- a log with these numbers, all of whose bodies are such bytes
abbrev log_at : ℕ → ℕ → ℕ → ℕ → Log
log_at start held waiting next = record { bodies = replicate ring_length 0xFA; start = start; held = held; waiting = waiting; next = next }

abbrev sees : ℕ → List ℕ → ℕ → ℕ → ℕ → ℕ → Seen
sees refusal bytes start held waiting next =
    record { refusal = refusal; bytes = bytes; start = start; held = held; waiting = waiting; next = next }

-- an event with this content, and so much room
abbrev hears : Name → List ℕ → ℕ → Act
hears event content lent = given (input_of event content) (replicate lent 0xEE)

-- the command with this code and the identifier 07, to the reader's address 05
abbrev asks : ℕ → Act
asks code = hears FRAME (0x05 ∷ 0x07 ∷ code ∷ []) room

-- and to 7F
abbrev asks_all : ℕ → Act
asks_all code = hears FRAME (0x7F ∷ 0x07 ∷ code ∷ []) room

-- two bodies, and that of a log made by `log_at`
abbrev aa : List ℕ
aa = 0xA0 ∷ 0xA1 ∷ 0xA2 ∷ 0xA3 ∷ 0xA4 ∷ 0xA5 ∷ 0xA6 ∷ 0xA7 ∷ []

abbrev bb : List ℕ
bb = 0xB0 ∷ 0xB1 ∷ 0xB2 ∷ 0xB3 ∷ 0xB4 ∷ 0xB5 ∷ 0xB6 ∷ 0xB7 ∷ []

abbrev fa : List ℕ
fa = replicate body_length 0xFA

-- the images of the replies: ACK, a NACK with its number and sum, and an entry with its identifier's bytes on the wire, its body and the sum
abbrev ack : List ℕ
ack = 0xFD ∷ 0x00 ∷ 0x07 ∷ 0x2A ∷ 0x55 ∷ 0x86 ∷ 0xFE ∷ []

abbrev nack : ℕ → ℕ → List ℕ
nack n sum = 0xFD ∷ 0x00 ∷ 0x07 ∷ 0x2A ∷ n ∷ sum ∷ 0xFE ∷ []

abbrev nack4 : List ℕ
nack4 = nack 4 0x35

abbrev entry : List ℕ → List ℕ → ℕ → List ℕ
entry identifier body sum = 0xFD ∷ 0x00 ∷ 0x07 ∷ 0x10 ∷ identifier ++ (body ++ (sum ∷ 0xFE ∷ []))

abbrev number : ℕ → List ℕ
number n = n ∷ 0x00 ∷ 0x00 ∷ 0x00 ∷ []

abbrev pub examples : List Example
examples =
    -- an empty log: read and delete are NACK 4, 12 and 13 are ACK
    lives empty_log
    (asks 0x10 ∷ asks 0x11 ∷ asks 0x12 ∷ asks 0x13 ∷ [])
    (sees 0 nack4 0 0 0 0
    ∷ sees 0 nack4 0 0 0 0
    ∷ sees 0 ack 0 0 0 0
    ∷ sees 0 ack 0 0 0 0
    ∷ [])
    -- two entries: read, and again; to 7F; delete; read the next; delete to empty; restore; read the first again; 13; read
    ∷ lives empty_log
    (made aa ∷ made bb ∷ asks 0x10 ∷ asks_all 0x10 ∷ asks 0x11 ∷ asks 0x10 ∷ asks 0x11 ∷ asks 0x10 ∷ asks 0x11 ∷ asks 0x12 ∷ asks 0x10 ∷ asks 0x13 ∷ asks 0x10 ∷ [])
    (sees 0 [] 0 1 1 1
    ∷ sees 0 [] 0 2 2 2
    ∷ sees 0 (entry (number 0) aa 0x33) 0 2 2 2
    ∷ sees 0 (entry (number 0) aa 0x33) 0 2 2 2
    ∷ sees 0 ack 0 2 1 2
    ∷ sees 0 (entry (number 1) bb 0xB4) 0 2 1 2
    ∷ sees 0 ack 0 2 0 2
    ∷ sees 0 nack4 0 2 0 2
    ∷ sees 0 nack4 0 2 0 2
    ∷ sees 0 ack 0 2 2 2
    ∷ sees 0 (entry (number 0) aa 0x33) 0 2 2 2
    ∷ sees 0 ack 0 2 0 2
    ∷ sees 0 nack4 0 2 0 2
    ∷ [])
    -- identifiers wrap: FFFFFFFF, whose bytes are stuffed, and 0 after it
    ∷ lives (log_at 0 0 0 0xFFFFFFFF)
    (made aa ∷ made bb ∷ asks 0x10 ∷ asks 0x11 ∷ asks 0x10 ∷ [])
    (sees 0 [] 0 1 1 0
    ∷ sees 0 [] 0 2 2 1
    ∷ sees 0 (entry (0xFF ∷ 0x00 ∷ 0xFF ∷ 0x00 ∷ 0xFF ∷ 0x00 ∷ 0xFF ∷ 0x00 ∷ []) aa 0x2F) 0 2 2 1
    ∷ sees 0 ack 0 2 1 1
    ∷ sees 0 (entry (number 0) bb 0xB3) 0 2 1 1
    ∷ [])
    -- the ring passes its end: a new entry stands at place 0, after the one at 127
    ∷ lives (log_at 127 1 1 1)
    (made aa ∷ asks 0x10 ∷ asks 0x11 ∷ asks 0x10 ∷ [])
    (sees 0 [] 127 2 2 2
    ∷ sees 0 (entry (number 0) fa 0xE7) 127 2 2 2
    ∷ sees 0 ack 127 2 1 2
    ∷ sees 0 (entry (number 1) aa 0x34) 127 2 1 2
    ∷ [])
    -- a full log drops the oldest, a waiting one too, and its start passes the end; after 13 a new entry waits alone
    ∷ lives (log_at 127 128 128 200)
    (asks 0x10 ∷ made aa ∷ asks 0x10 ∷ asks 0x13 ∷ made bb ∷ asks 0x10 ∷ asks 0x12 ∷ asks 0x10 ∷ [])
    (sees 0 (entry (number 72) fa 0x2F) 127 128 128 200
    ∷ sees 0 [] 0 128 128 201
    ∷ sees 0 (entry (number 73) fa 0x30) 0 128 128 201
    ∷ sees 0 ack 0 128 0 201
    ∷ sees 0 [] 1 128 1 202
    ∷ sees 0 (entry (number 201) bb 0x7C) 1 128 1 202
    ∷ sees 0 ack 1 128 128 202
    ∷ sees 0 (entry (number 74) fa 0x31) 1 128 128 202
    ∷ [])
    -- an unknown code is NACK 2, with data too; data is NACK 3, before NACK 4
    ∷ lives empty_log
    (asks 0x14 ∷ hears FRAME (0x05 ∷ 0x07 ∷ 0x00 ∷ 0x00 ∷ []) room ∷ hears FRAME (0x05 ∷ 0x07 ∷ 0x10 ∷ 0x00 ∷ []) room ∷ hears FRAME (0x05 ∷ 0x07 ∷ 0x13 ∷ 0xE7 ∷ 0xA5 ∷ []) room ∷ [])
    (sees 0 (nack 2 0x33) 0 0 0 0
    ∷ sees 0 (nack 2 0x33) 0 0 0 0
    ∷ sees 0 (nack 3 0x34) 0 0 0 0
    ∷ sees 0 (nack 3 0x34) 0 0 0 0
    ∷ [])
    -- only a FRAME is answered, whatever another event carries
    ∷ lives (log_at 3 5 2 9)
    (hears CHECK (0x05 ∷ 0x07 ∷ 0x11 ∷ []) room ∷ hears NONE [] room ∷ hears SHORT [] room ∷ hears LONG [] room ∷ hears PAIR [] room ∷ hears ADDR (0x05 ∷ 0x07 ∷ 0x13 ∷ []) room ∷ [])
    (sees 0 [] 3 5 2 9
    ∷ sees 0 [] 3 5 2 9
    ∷ sees 0 [] 3 5 2 9
    ∷ sees 0 [] 3 5 2 9
    ∷ sees 0 [] 3 5 2 9
    ∷ sees 0 [] 3 5 2 9
    ∷ [])
    -- refusals in their order, 4, 1 and 5, none of which moves the log; CHECK and others need room too
    ∷ lives (log_at 3 5 2 9)
    (hears FRAME (0x05 ∷ 0x07 ∷ []) 129 ∷ hears CHECK [] 129 ∷ hears FRAME (0x05 ∷ 0x07 ∷ []) 130 ∷ hears CHECK [] 130 ∷ hears FRAME (replicate 64 0x11) 130 ∷ hears FRAME (replicate 63 0x11) 130 ∷ [])
    (sees 1 [] 3 5 2 9
    ∷ sees 1 [] 3 5 2 9
    ∷ sees 5 [] 3 5 2 9
    ∷ sees 0 [] 3 5 2 9
    ∷ sees 5 [] 3 5 2 9
    ∷ sees 0 (0xFD ∷ 0x00 ∷ 0x11 ∷ 0x2A ∷ 0x03 ∷ 0x3E ∷ 0xFE ∷ []) 3 5 2 9
    ∷ [])
    -- 4 BadState: held 129
    ∷ lives (log_at 0 129 0 0)
    (made aa ∷ hears FRAME [] 0 ∷ asks 0x12 ∷ [])
    (sees 4 [] 0 129 0 0
    ∷ sees 4 [] 0 129 0 0
    ∷ sees 4 [] 0 129 0 0
    ∷ [])
    -- 4 BadState: waiting over held
    ∷ lives (log_at 0 3 4 0)
    (made aa ∷ hears FRAME [] 0 ∷ asks 0x12 ∷ [])
    (sees 4 [] 0 3 4 0
    ∷ sees 4 [] 0 3 4 0
    ∷ sees 4 [] 0 3 4 0
    ∷ [])
    -- 4 BadState: a start of 128
    ∷ lives (log_at 128 0 0 0)
    (made aa ∷ hears FRAME [] 0 ∷ asks 0x12 ∷ [])
    (sees 4 [] 128 0 0 0
    ∷ sees 4 [] 128 0 0 0
    ∷ sees 4 [] 128 0 0 0
    ∷ [])
    -- the most that is good
    ∷ lives (log_at 127 128 128 0)
    (asks 0x13 ∷ [])
    (sees 0 ack 127 128 0 0
    ∷ [])
    -- what is told: one of three deleted, then restored, then all deleted, then one new
    ∷ tells (made aa ∷ asks 0x13 ∷ asks 0x12 ∷ asks 0x11 ∷ made bb ∷ made aa ∷ made aa ∷ []) (DELETED ∷ DELETED ∷ DELETED ∷ WAITING ∷ [])
    ∷ tells (asks 0x11 ∷ made bb ∷ made aa ∷ made aa ∷ []) (DELETED ∷ WAITING ∷ WAITING ∷ [])
    ∷ tells (asks 0x10 ∷ hears CHECK (0x05 ∷ 0x07 ∷ 0x11 ∷ []) 130 ∷ hears FRAME (0x05 ∷ 0x07 ∷ 0x11 ∷ []) 129 ∷ hears FRAME (0x05 ∷ 0x07 ∷ 0x11 ∷ 0x00 ∷ []) 130 ∷ made aa ∷ []) (WAITING ∷ [])
    -- 128 and two more: the first two are dropped
    ∷ tells (asks 0x11 ∷ replicate 130 (made aa)) (DROPPED ∷ DROPPED ∷ DELETED ∷ replicate 127 WAITING)
    -- the limits in numbers
    ∷ counts most_held 128
    ∷ counts body_length 8
    ∷ counts ring_length 1024
    ∷ counts room 130
    ∷ counts least_front 3
    ∷ counts most_front 63
    ∷ []
