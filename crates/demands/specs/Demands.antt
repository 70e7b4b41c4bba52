-- The three demands that the library keeps, as three propositions about the statements of its calls. `proofs/Laws/Demands` proves each.
-- README's head has them in plain words; 01, 'How much each call must say', says what they have to rule out. Assumes nothing.
use Rattle.std.specs.Prelude.{◌≡◌, Bool, true, false, ℕ, ◌+◌, ◌≤◌, length, take, drop, Result, Ok}
use mathlib.Core.List.{List, ◌∷◌, ◌++◌, Memᴰ}
use Rattle.std.proofs.Math.Option.{some}
use Rattle.ground.specs.declared.refusal.Refusal.{Refusal}
use Rattle.ground.specs.Refusals.{tally}
use Rattle.checks.specs.Fcs.{residue, good_residue}
use Rattle.wire_spec.specs.Stuffing.{stuffing, unstuffing}
use Rattle.wire_spec.specs.Image.{image}
use Rattle.wire_spec.specs.Writing.{after, putting}
use Rattle.link_spec.specs.declared.station.Station.{Station}
use Rattle.link_spec.specs.declared.station.Station.TheVariants.{Point, Addressed}
use Rattle.link_spec.specs.declared.receiver.Receiver.{Receiver}
use Rattle.link_spec.specs.declared.receiver.Heard.{Heard}
use Rattle.link_spec.specs.Limits.{most_data}
use Rattle.link_spec.specs.Address.{NoStation, takes}
use Rattle.link_spec.specs.Frame.{point_content, addressed_content}
use Rattle.link_spec.specs.Writers.{point_written, addressed_written}
use Rattle.link_spec.specs.Events.{FRAME}
use Rattle.link_spec.specs.Receiving.{saying, received}
use Rattle.link_spec.specs.Hearing.{Told, told_at, IsFresh, Hearing}
use Rattle.link_spec.specs.Listing.{Lists}
use Rattle.request_spec.specs.declared.parameter.Parameter.{Parameter}
use Rattle.request_spec.specs.declared.command.Command.{Command}
use Rattle.request_spec.specs.declared.command.Command.TheVariants.{Write, Read}
use Rattle.request_spec.specs.Limits.{header_length}
use Rattle.request_spec.specs.Acceptance.{Accepts}
use Rattle.request_spec.specs.Replies.{NACK, DATA, sign, identifier_of, command_of, data_of}
use Rattle.request_spec.specs.Requesting.{request_written}
use Rattle.reader_spec.specs.declared.reader.Asking.TheVariants.{Right}
use Rattle.reader_spec.specs.declared.reader.Reader.{Reader}
use Rattle.reader_spec.specs.State.{state_of}
use Rattle.reader_spec.specs.Asking.{asking}
use Rattle.reader_spec.specs.Replies.{reply_image}
use Rattle.reader_spec.specs.Sending.{Buffers}
use Rattle.reader_spec.specs.Answering.{powering, powered_on, Input}
use Rattle.reader_spec.specs.Sessions.{History, begun, is_executed, asks_for, next_history, StoreKept, Call, reader_after, Done, bytes_sent, ReaderSession, Idle, Unwritten, left_of}
use Rattle.reader_spec.specs.Promises.{Repeated}
use Rattle.tape_spec.specs.declared.tape.Tape.{Tape}
use Rattle.tape_spec.specs.declared.tape.Listed.{Listed}
use Rattle.tape_spec.specs.Limits.{least_room}
use Rattle.tape_spec.specs.Rows.{header_row, last_row}
use Rattle.tape_spec.specs.Whole.{parts, Entry, entry_rows, listing}
use Rattle.tape_spec.specs.Frames.{Shows}
use Rattle.tape_spec.specs.Taping.{listed_out, listed}
use Rattle.tape_spec.specs.Sessions.{Listing}
use Rattle.demands.specs.Refusing.{RefusesByTable, RefusedChangesNothing}
use Rattle.demands.specs.Exchanging.{HeardAndRead, WellAnswered}
use Rattle.demands.specs.Going.{ReachedReceiver, TakesPiece, ReachedTape, TakesChunk}

-- 1. Bad input gets a numbered refusal; a refused call changes no state and no byte of a lent buffer. (That every call ends and takes every input
-- it can be given is what it is to be proved with no `requires`.)
pub record Demand1 : Type 0 where
  pub refuses : RefusesByTable
  pub keeps : RefusedChangesNothing

-- 2. Frames, check values, stuffing, typed replies and the reader's answers agree with the two line descriptions, for writing and for
-- reading. A request that repeats the identifier and command of the last one executed since power-on, whatever its data, gets the stored reply and
-- executes nothing. (What the master reads in any reply is in its table, of demand 1.)
pub record Demand2 : Type 0 where
  -- what a frame can carry is written where there is room: the image in front, its length as the count, later bytes as they were
  pub point_writes : (identifier command : ℕ) («data» out : List ℕ) → let content = point_content identifier command «data» in
      length «data» ≤ most_data → length (image content) ≤ length out → point_written identifier command «data» out ≡ putting content out
  pub addressed_writes : (address identifier command : ℕ) («data» out : List ℕ) → let content = addressed_content address identifier command «data» in
      address ≤ 0xFC → length «data» ≤ most_data → length (image content) ≤ length out
      → addressed_written address identifier command «data» out ≡ putting content out
  pub request_writes : (identifier code : ℕ) («data» out : List ℕ) {command : Command} → let content = point_content identifier code «data» in
      Accepts code «data» command → length (image content) ≤ length out → request_written identifier code «data» out ≡ putting content out
  -- what was written and not refused is heard wherever it stands, with the fields that were written
  pub point_heard : (r : Result ℕ Refusal) (identifier command : ℕ) («data» out out' before rest : List ℕ) {s : Receiver} {all : List Told}
      → after r out' ≡ point_written identifier command «data» out → (tally r).refusal ≡ 0 → IsFresh Point s
      → Hearing (before ++ (take (tally r).count out' ++ rest)) s 0 all
      → Memᴰ (told_at (length before + (tally r).count) FRAME (identifier ∷ command ∷ «data»)) all
  pub addressed_heard : (r : Result ℕ Refusal) (own address identifier command : ℕ) («data» out out' before rest : List ℕ) {s : Receiver} {all : List Told}
      → after r out' ≡ addressed_written address identifier command «data» out → (tally r).refusal ≡ 0 → takes own address ≡ true → IsFresh (Addressed own) s
      → Hearing (before ++ (take (tally r).count out' ++ rest)) s 0 all
      → Memᴰ (told_at (length before + (tally r).count) FRAME (address ∷ identifier ∷ command ∷ «data»)) all
  pub request_heard : (r : Result ℕ Refusal) (identifier code : ℕ) («data» out out' before rest : List ℕ) {s : Receiver} {all : List Told}
      → after r out' ≡ request_written identifier code «data» out → (tally r).refusal ≡ 0 → IsFresh Point s
      → Hearing (before ++ (take (tally r).count out' ++ rest)) s 0 all
      → Memᴰ (told_at (length before + (tally r).count) FRAME (identifier ∷ code ∷ «data»)) all
  pub check : (identifier command : ℕ) («data» : List ℕ) → residue (point_content identifier command «data») ≡ good_residue
  pub stuffed : (content : List ℕ) → unstuffing (stuffing content) ≡ some content
  -- each call of a session answers as the paper's steps say; there are sessions, of a fast reader and of a slow one, every call can be made in
  -- one, and no power-on is refused
  pub answers : {alone : Bool} {s : Reader} {held : List ℕ} {h : History} → ReaderSession alone s held h → (c : Call alone h s held) → WellAnswered c
  pub begins : (alone fast : Bool) (store : List ℕ) → (s : Reader) × ReaderSession alone s store (begun fast)
  pub goes_on : {alone : Bool} {h : History} {s : Reader} {held : List ℕ} (i : Input) (lent : Buffers) → StoreKept alone h held lent.store
      → length i.header ≡ header_length → (c : Call alone h s held) × (c.input ≡ i) × (c.lent ≡ lent)
  pub powers : {alone : Bool} {s : Reader} {held : List ℕ} {h : History} → ReaderSession alone s held h → (r : Result Reader Refusal)
      → powering s r ≡ powered_on (state_of s) → (powering s r).refusal ≡ 0
  -- a NACK is heard wherever it stands, and read as what it is by a master whose request was acceptable
  pub nack_read : (n identifier code : ℕ) («data» before rest : List ℕ) {command : Command} {m : Receiver} {all : List Told} → 1 ≤ n → n ≤ 6
      → Accepts code «data» command → IsFresh Point m → let bytes = reply_image identifier sign (NACK n) in
      Hearing (before ++ (bytes ++ rest)) m 0 all → HeardAndRead identifier code «data» before all bytes (NACK n)
  -- what was written to a parameter is what a later read sends, until another write of it or, for a speed above 7, a power-on, which leaves 3
  pub values : {alone with_power : Bool} {s t : Reader} {held kept : List ℕ} {h k : History} {p : Parameter} → ReaderSession alone s held h
      → (w : Call alone h s held) → Done w → is_executed h w.input ≡ true → asks_for w.input ≡ Ok (Write p)
      → Unwritten alone p (reader_after w) w.left.store (next_history h w.input) t kept k with_power
      → (r : Call alone k t kept) → Done r → is_executed k r.input ≡ true → asks_for r.input ≡ Ok (Read p)
      → bytes_sent r ≡ reply_image (identifier_of r.input.content) (command_of r.input.content)
      (DATA (left_of with_power p (drop 1 (data_of w.input.content))))
  -- after a command was executed, and any calls that execute nothing and leave what is remembered of the store, a frame with its identifier and
  -- command, in a call that is not refused, gets the stored reply and changes nothing
  pub repeats : {s t : Reader} {held kept : List ℕ} {h : History} → ReaderSession false s held h
      → (first : Call false h s held) → Done first → is_executed h first.input ≡ true
      → Idle true (next_history h first.input) (reader_after first) first.left.store t kept
      → (again : Call true (next_history h first.input) t kept) → Done again → asking again.input.event ≡ Right
      → identifier_of again.input.content ≡ identifier_of first.input.content
      → command_of again.input.content ≡ command_of first.input.content
      → Repeated first again

-- 3. From a fresh receiver and one stream, cut into calls at will, the frames handed out are exactly those of at most 64 content bytes, with an
-- address that the station takes, whose whole wire image stands in it: each once, in order, at its stop byte. And so of a tape, cut at will.
pub record Demand3 : Type 0 where
  pub lists : {station : Station} {s : Receiver} {stream : List ℕ} {all : List Told} → IsFresh station s → Hearing stream s 0 all → Lists station stream all
  -- the cuts do not matter to any event, and any cut goes on
  pub cuts : {station : Station} {s r : Receiver} {stream : List ℕ} {all others : List Told} → IsFresh station s → Hearing stream s 0 all
      → IsFresh station r → Hearing stream r 0 others → all ≡ others
  pub goes_on : {station : Station} {s : Receiver} → ReachedReceiver station s → (piece : List ℕ) (r : Result Heard Refusal)
      → saying s r ≡ received s piece → TakesPiece s piece (saying s r)
  -- there is a fresh receiver of either kind, and a hearing of every stream
  pub point : (s : Receiver) × IsFresh Point s
  pub station : (own : ℕ) → (NoStation own → ⊥) → (s : Receiver) × IsFresh (Addressed own) s
  pub some : {station : Station} {s : Receiver} → IsFresh station s → (stream : List ℕ) → (all : List Told) × Hearing stream s 0 all
  -- a tape's listing is the same however it was handed over, and its FRAME rows are those of what stands in what was heard on their line
  pub tape : {bytes text : List ℕ} → Listing bytes text → let p = parts 0 bytes in
      (all : List Entry) × (text ≡ header_row ++ (entry_rows all ++ last_row p.ending (length p.records))) × Shows p.records all
  pub tape_cuts : {bytes text : List ℕ} → Listing bytes text → text ≡ listing bytes
  pub tape_goes_on : {t : Tape} → ReachedTape t → (chunk out last : List ℕ) (r : Result Listed Refusal) → least_room ≤ length out
      → listed_out t r last ≡ listed t chunk out → TakesChunk t chunk out (listed_out t r last)
  pub tape_some : (bytes : List ℕ) → (text : List ℕ) × Listing bytes text
