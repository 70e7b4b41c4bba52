-- What is promised of one call of the point line's reader, and of its reply: a request that came is executed, or answered with a NACK; the reply
-- is heard, and the master reads in it what it is.
-- 01, The point reader and 'Master's side'; 02, L2. Assumes nothing.
use Rattle.std.specs.Prelude.{◌≡◌, Bool, true, false, ℕ, ◌+◌, ◌≤◌, length, Ok}
use mathlib.Core.List.{List, [], ◌∷◌, ◌++◌, Memᴰ}
use Rattle.std.proofs.Math.Option.{some}
use Rattle.link_spec.specs.declared.station.Station.TheVariants.{Point}
use Rattle.link_spec.specs.declared.receiver.Receiver.{Receiver}
use Rattle.link_spec.specs.Limits.{most_data}
use Rattle.link_spec.specs.Events.{FRAME, CHECK}
use Rattle.link_spec.specs.Hearing.{Told, told_at, IsFresh, Hearing}
use Rattle.request_spec.specs.declared.command.Command.{Command}
use Rattle.request_spec.specs.Acceptance.{Accepts}
use Rattle.request_spec.specs.Replies.{Reply, NACK, sign, identifier_of, front_of}
use Rattle.request_spec.specs.Reading.{has_read, reply_read}
use Rattle.reader_spec.specs.declared.reader.Asking.TheVariants.{Right}
use Rattle.reader_spec.specs.declared.reader.Reader.{Reader}
use Rattle.reader_spec.specs.Speeds.{WritesAbove}
use Rattle.reader_spec.specs.State.{state_of}
use Rattle.reader_spec.specs.Asking.{asking}
use Rattle.reader_spec.specs.Replies.{IsAnswer, reply_image, reply_to}
use Rattle.reader_spec.specs.Answering.{LentWell, CarriesContent, Unfit}
use Rattle.reader_spec.specs.Sessions.{Execution, History, bytes_of, repeats_last, asks_for, judged_history, to_send, is_repeat, is_executed, Call, reader_after, outcome, Done, bytes_sent, ReaderSession}
use Rattle.reader_spec.specs.Promises.{Unchanged, Recalls}

module _ {alone : Bool} {h : History} {s : Reader} {held : List ℕ} (c : Call alone h s held) where
  -- a call is given this request, as a FRAME that repeats nothing, with good buffers
  pub record Asks (identifier code : ℕ) («data» : List ℕ) : Type 0 where
    pub event : c.input.event ≡ FRAME
    pub content : c.input.content ≡ identifier ∷ code ∷ «data»
    pub well : LentWell c.input c.lent
    pub new : (e : Execution) → h.last ≡ some e → e.identifier ≡ identifier → e.code ≡ code → ⊥

  -- It executed the request as this command: it sends the reply that the table has for the values by the writes and power-ons so far, and the
  -- session goes on with what the command did, and with it as the last one executed.
  pub record RequestExecuted (command : Command) : Type 0 where
    pub asked : asks_for c.input ≡ Ok command
    pub done : Done c
    pub executed : is_executed h c.input ≡ true
    pub sends : bytes_sent c ≡ bytes_of c.input.content (some (reply_to h.value command c.input.header c.input.antenna))
    pub reply : IsAnswer (reply_to h.value command c.input.header c.input.antenna)
    pub goes_on : ReaderSession alone (reader_after c) c.left.store (judged_history h c.input (Ok command))

  -- it changed neither the reader's state nor the store
  abbrev pub ChangesNothing : Type 0
  ChangesNothing = Unchanged (state_of s) c.lent (outcome c)

  -- it answered the request with the NACK of this number, and nothing else
  pub record RequestNacked (n : ℕ) : Type 0 where
    pub done : Done c
    pub idle : is_executed h c.input ≡ false
    pub sends : bytes_sent c ≡ reply_image (identifier_of c.input.content) sign (NACK n)
    pub unchanged : ChangesNothing

-- a reply sent in these bytes is heard, and the master that made this request reads in it what it is
pub record HeardAndRead (identifier code : ℕ) («data» before : List ℕ) (all : List Told) (bytes : List ℕ) (reply : Reply) : Type 0 where
  pub heard : Memᴰ (told_at (length before + length bytes) FRAME (front_of identifier code reply)) all
  pub reads : reply_read identifier code «data» (front_of identifier code reply) ≡ has_read reply

-- What is promised of one call of a session.
pub record WellAnswered {alone : Bool} {h : History} {s : Reader} {held : List ℕ} (c : Call alone h s held) : Type 0 where
  -- unless it is refused it sends the whole image of the reply that is due; on a repeat, if nobody else wrote to the store
  pub sends : Done c → (is_repeat h c.input ≡ true → alone ≡ true) → bytes_sent c ≡ to_send h c.input
  -- a frame that repeats the last executed command changes nothing, and sends what the store holds of its reply
  pub recalls : Done c → asking c.input.event ≡ Right → repeats_last h c.input ≡ true → Recalls c
  -- with good buffers and a content that fits it is not refused
  pub fine : LentWell c.input c.lent → (Unfit c.input → ⊥) → Done c
  -- a request of the paper's table is executed, but not by a slow reader if it writes a speed of 8..10: that is NACK 3
  pub executes : (identifier code : ℕ) («data» : List ℕ) {command : Command} → Asks c identifier code «data» → Accepts code «data» command
      → (h.fast ≡ false → WritesAbove code «data» → ⊥)
      → RequestExecuted c command
  pub nacks_speed : (identifier code : ℕ) («data» : List ℕ) → Asks c identifier code «data» → h.fast ≡ false → WritesAbove code «data»
      → RequestNacked c 3
  -- any other, if a frame can carry it, gets NACK 2 where the table has no row with its code, and NACK 3 where it has none with its data
  pub nacks_code : (identifier code : ℕ) («data» : List ℕ) → Asks c identifier code «data»
      → ((other : List ℕ) (command : Command) → Accepts code other command → ⊥)
      → length «data» ≤ most_data
      → RequestNacked c 2
  pub nacks_data : (identifier code : ℕ) («data» other : List ℕ) {known : Command} → Asks c identifier code «data» → Accepts code other known
      → ((command : Command) → Accepts code «data» command → ⊥)
      → length «data» ≤ most_data
      → RequestNacked c 3
  -- a CHECK gets NACK 1, and any other event but a FRAME no answer
  pub nacks_check : Done c → c.input.event ≡ CHECK → RequestNacked c 1
  pub silent : Done c → (CarriesContent c.input.event → ⊥) → bytes_sent c ≡ []
  -- a call that executes nothing, as at a CHECK or where there is no answer, changes neither state nor store
  pub keeps : (Done c → is_executed h c.input ≡ false) → ChangesNothing c
  -- the reply to a request that is executed is heard wherever it stands, and read by the master as what it is
  pub read : (identifier code : ℕ) («data» before rest : List ℕ) {command : Command} {m : Receiver} {all : List Told} → Asks c identifier code «data»
      → RequestExecuted c command
      → IsFresh Point m
      → Hearing (before ++ (bytes_sent c ++ rest)) m 0 all
      → HeardAndRead identifier code «data» before all (bytes_sent c) (reply_to h.value command c.input.header c.input.antenna)
