-- Demand 1 in two parts: each call refuses what the paper's table names, and only that; a refused call changes and answers nothing.
-- 01, Refusal numbers; 02, L1 for number 10 and L2 for a slow reader's state. Assumes nothing.
use Rattle.std.specs.Prelude.{◌≡◌, true, false, List, ℕ, ◌-◌, ◌≤◌, ◌<◌, length}
use Rattle.std.proofs.Math.Option.{none}
use Rattle.ground.specs.declared.refusal.Refusal.TheVariants.{NoRoom, TooLong, BadState, TapeTooLong}
use Rattle.ground.specs.Refusals.{number, refused, counted, Keeps, AnswersOnly}
use Rattle.ground.specs.Laying.{unplaced, placed, put}
use Rattle.wire_spec.specs.Limits.{most_content}
use Rattle.wire_spec.specs.Image.{image, image_length}
use Rattle.wire_spec.specs.Writing.{After, not_written, putting, length_asked, image_written}
use Rattle.link_spec.specs.declared.receiver.Receiver.{Receiver}
use Rattle.link_spec.specs.Writers.{point_written, addressed_written, PointTable, AddressedTable}
use Rattle.link_spec.specs.Events.{NONE}
use Rattle.link_spec.specs.Receiving.{fresh_made, NewTable, received, BadReceiver, ReceiverTable}
use Rattle.request_spec.specs.Requesting.{request_written, RequestTable}
use Rattle.request_spec.specs.Reading.{reply_read, MasterTable}
use Rattle.reader_spec.specs.State.{State}
use Rattle.reader_spec.specs.Sending.{OUT, Buffers}
use Rattle.reader_spec.specs.Answering.{powered_on, PowerTable, Input, answered, ReaderTable}
use Rattle.tape_spec.specs.declared.tape.Tape.{Tape}
use Rattle.tape_spec.specs.Limits.{least_room}
use Rattle.tape_spec.specs.declared.tape.Line.TheVariants.{Point, Addressed}
use Rattle.tape_spec.specs.declared.tape.Ending.TheVariants.{End as END}
use Rattle.tape_spec.specs.Taping.{bad_tape, not_listed, going, text_written, listed, ending}
use Rattle.totals_spec.specs.declared.totals.Totals.{Totals}
use Rattle.totals_spec.specs.Whole.{line_report, nothing, ranked, no_report, is_full}
use Rattle.totals_spec.specs.Adding.{totals_after, bad_totals, added, reported}

-- a table decides an answer: the answer is that of one of its rows whose conditions hold, and no row whose conditions hold gives another
pub record Decides {A : Type 0} (Table : A → Type 0) (answer : A) : Type 0 where
  pub row : Table answer
  pub only : {other : A} → Table other → other ≡ answer

-- When, and only then: each answer is decided by the rows of the paper's table; of calls that the table does not name, by the same numbers.
pub record RefusesByTable : Type 0 where
  pub puts : (bytes out : List ℕ) (at : ℕ) → (length out - at < length bytes → put bytes out at ≡ unplaced NoRoom out at)
      × (length bytes ≤ length out - at → put bytes out at ≡ placed bytes out at)
  pub asks_length : (content : List ℕ) → (most_content < length content → length_asked content ≡ refused TooLong)
      × (length content ≤ most_content → length_asked content ≡ counted (image_length content))
  pub writes_image : (content out : List ℕ) → (length out < length (image content) → image_written content out ≡ not_written NoRoom out)
      × (length (image content) ≤ length out → image_written content out ≡ putting content out)
  pub point : (identifier command : ℕ) («data» out : List ℕ)
      → Decides (PointTable identifier command «data» out) (point_written identifier command «data» out)
  pub addressed : (address identifier command : ℕ) («data» out : List ℕ)
      → Decides (AddressedTable address identifier command «data» out) (addressed_written address identifier command «data» out)
  pub station : (own : ℕ) → Decides (NewTable own) (fresh_made own)
  pub receiver : (s : Receiver) (piece : List ℕ) → Decides (ReceiverTable s piece) (received s piece)
  pub receives : (s : Receiver) (piece : List ℕ) → (BadReceiver s → ⊥) → (received s piece).refusal ≡ 0
  pub request : (identifier code : ℕ) («data» out : List ℕ)
      → Decides (RequestTable identifier code «data» out) (request_written identifier code «data» out)
  pub reader : (s : State) (i : Input) (lent : Buffers) → Decides (ReaderTable s i lent) (answered s i lent)
  pub power : (s : State) → Decides (PowerTable s) (powered_on s)
  pub master : (identifier code : ℕ) («data» reply : List ℕ)
      → Decides (MasterTable identifier code «data» reply) (reply_read identifier code «data» reply)
  pub tape : (t : Tape) (chunk out : List ℕ) → (bad_tape t ≡ true → listed t chunk out ≡ not_listed BadState t out)
      × (bad_tape t ≡ false → length out < least_room → listed t chunk out ≡ not_listed NoRoom t out)
      × (bad_tape t ≡ false → least_room ≤ length out → listed t chunk out ≡ text_written (going (length out) t chunk) out)
  pub adds : (t : Totals) (chunk : List ℕ) → (bad_totals t ≡ true → added t chunk ≡ record { refusal = number BadState; totals = t })
      × (bad_totals t ≡ false → added t chunk ≡ record { refusal = 0; totals = totals_after t chunk })
  pub reports : (t : Totals) → let e = ending t.tape.next in
      (bad_totals t ≡ true → reported t ≡ no_report BadState)
      × (bad_totals t ≡ false → is_full e ≡ true → reported t ≡ no_report TapeTooLong)
      × (bad_totals t ≡ false → is_full e ≡ false → reported t ≡ ranked t.point t.addressed e t.tape.records)

-- a call that writes to a lent buffer: refused, it counts 0 and leaves the buffer as it was
abbrev pub Writer : (List ℕ → After) → Type 0
Writer writes =
    (out : List ℕ) → Keeps (writes out).tally.refusal out (writes out).out × AnswersOnly (writes out).tally.refusal 0 (writes out).tally.count

-- A refused call changes no state and no byte of a lent buffer, and answers count 0 (`put` the place where it began), no event, no meaning, an
-- empty part, or a report of zeros.
pub record RefusedChangesNothing : Type 0 where
  pub puts : (bytes out : List ℕ) (at : ℕ) → let e = put bytes out at in Keeps e.refusal out e.out × AnswersOnly e.refusal at e.end
  pub asks_length : (content : List ℕ) → AnswersOnly (length_asked content).refusal 0 (length_asked content).count
  pub writes_image : (content : List ℕ) → Writer (image_written content)
  pub point : (identifier command : ℕ) («data» : List ℕ) → Writer (point_written identifier command «data»)
  pub addressed : (address identifier command : ℕ) («data» : List ℕ) → Writer (addressed_written address identifier command «data»)
  -- what comes with the refusal of a new station is refused by every call
  pub station : (own : ℕ) (piece : List ℕ) → ((fresh_made own).refusal ≡ 0 → ⊥) → (received (fresh_made own).receiver piece).refusal ≡ 4
  pub receiver : (s : Receiver) (piece : List ℕ) → let a = received s piece in
      Keeps a.refusal s a.receiver × AnswersOnly a.refusal NONE a.event × AnswersOnly a.refusal 0 a.length × AnswersOnly a.refusal 0 a.taken
  pub request : (identifier code : ℕ) («data» : List ℕ) → Writer (request_written identifier code «data»)
  pub reader : (s : State) (i : Input) (lent : Buffers) → let a = answered s i lent in
      Keeps a.refusal s a.state × Keeps a.refusal lent a.left × AnswersOnly a.refusal OUT a.buffer × AnswersOnly a.refusal 0 a.length
  pub power : (s : State) → Keeps (powered_on s).refusal s (powered_on s).state
  pub master : (identifier code : ℕ) («data» reply : List ℕ) → let o = reply_read identifier code «data» reply in AnswersOnly o.refusal none o.meaning
  pub tape : (t : Tape) (chunk out : List ℕ) → let d = listed t chunk out in
      Keeps d.refusal t d.tape × Keeps d.refusal out d.out × AnswersOnly d.refusal 0 d.taken × AnswersOnly d.refusal 0 d.written
  pub adds : (t : Totals) (chunk : List ℕ) → Keeps (added t chunk).refusal t (added t chunk).totals
  pub reports : (t : Totals) → let r = reported t in
      AnswersOnly r.refusal (line_report Point nothing) r.first
      × AnswersOnly r.refusal (line_report Addressed nothing) r.second
      × AnswersOnly r.refusal END r.ending
      × AnswersOnly r.refusal 0 r.records
