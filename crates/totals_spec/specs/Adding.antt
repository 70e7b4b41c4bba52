-- What the calls that add up a tape answer, for every input. 02, L1, and 01, Refusal numbers, row 4 in its sense (docs/DECISIONS.md,
-- ledger, report_rows and totals). Assumes nothing.
use Rattle.std.specs.Prelude.{ℕ, ◌+◌, ◌*◌, Bool, cond, ◌||◌, List, [], ◌∷◌, ltb, length, Result, Ok, Err}
use Rattle.ground.specs.declared.refusal.Refusal.{Refusal}
use Rattle.ground.specs.declared.refusal.Refusal.TheVariants.{BadState, TapeTooLong}
use Rattle.ground.specs.Refusals.{number}
use Rattle.wire_spec.specs.Limits.{most_image}
use Rattle.link_spec.specs.declared.station.Station.{Station}
use Rattle.link_spec.specs.declared.receiver.Receiver.{Receiver}
use Rattle.link_spec.specs.Receiving.{Said, received}
use Rattle.tape_spec.specs.declared.tape.Line.{Line}
use Rattle.tape_spec.specs.declared.tape.Line.TheVariants.{Point, Addressed}
use Rattle.tape_spec.specs.declared.tape.Next.{Next}
use Rattle.tape_spec.specs.declared.tape.Next.TheVariants.{Kind, Body, Bad, Full}
use Rattle.tape_spec.specs.Rows.{carried}
use Rattle.tape_spec.specs.Whole.{Record, heard_on, receiver_on}
use Rattle.tape_spec.specs.Frames.{bytes_on}
use Rattle.tape_spec.specs.Taping.{tape_of, fresh_tape, after_kind, bad_tape, ending}
use Rattle.totals_spec.specs.declared.totals.Sums.{Sums}
use Rattle.totals_spec.specs.declared.totals.Totals.{Totals}
use Rattle.totals_spec.specs.declared.totals.Report.{Report}
use Rattle.totals_spec.specs.Whole.{is_frame, image_bytes, reserved_bytes, sums_of, Reported, in_order, nothing, ranked, no_report, is_full}

-- before a tape's first byte
abbrev pub fresh_totals : Totals
fresh_totals = record { tape = fresh_tape; point = nothing; addressed = nothing }

-- ---- the bytes of one line

-- a line's receiver, and its sums
pub record Account : Type 0 where
  pub receiver : Receiver
  pub sums : Sums

abbrev pub account : Receiver → Sums → Account
account receiver sums = record { receiver = receiver; sums = sums }

-- bytes more were heard
abbrev pub with_bytes : ℕ → Sums → Sums
with_bytes n s = sums_of s.frames (s.heard + n) s.inside s.reserved

-- a frame more is listed
abbrev pub with_frame : Station → List ℕ → Sums → Sums
with_frame station front s =
    sums_of (s.frames + 1) s.heard (s.inside + image_bytes station front) (s.reserved + reserved_bytes station front)

-- what a call of the receiver told counts where it is a FRAME
abbrev pub with_said : Station → Said → Sums → Sums
with_said station said s = cond (is_frame said.event) (with_frame station (carried said) s) s

-- byte by byte
unfoldable pub after_bytes : Account → List ℕ → Account
after_bytes x [] = x
after_bytes x (b ∷ bs) =
    let said = received x.receiver (b ∷ []) in
    after_bytes (account said.receiver (with_said x.receiver.station said (with_bytes 1 x.sums))) bs

-- ---- a chunk of a tape

-- the records whose body stands in it, and what comes after its last byte
pub record Chunk : Type 0 where
  pub records : List Record
  pub next : Next

abbrev pub with_record : Record → Chunk → Chunk
with_record r c = record { records = r ∷ c.records; next = c.next }

-- after this many whole records, and with this byte next
unfoldable pub chunk_of : ℕ → Next → List ℕ → Chunk
chunk_of n next [] = record { records = []; next = next }
chunk_of n Kind (k ∷ bs) = chunk_of n (after_kind n k) bs
chunk_of n (Body line) (b ∷ bs) = with_record (heard_on line b) (chunk_of (n + 1) Kind bs)
chunk_of n Bad (b ∷ bs) = record { records = []; next = Bad }
chunk_of n Full (b ∷ bs) = record { records = []; next = Full }

abbrev pub sums_at : Line → Totals → Sums
sums_at Point t = t.point
sums_at Addressed t = t.addressed

abbrev pub account_at : Line → Totals → Account
account_at line t = account (receiver_on line t.tape.receivers) (sums_at line t)

-- after this many records, with this byte next and these accounts of the point line and of the addressed line
abbrev pub totals_of : ℕ → Next → Account → Account → Totals
totals_of n next p a =
    record { tape = tape_of n next (record { point = p.receiver; addressed = a.receiver }); point = p.sums; addressed = a.sums }

-- each line's receiver hears the bytes of its line
unfoldable pub totals_after : Totals → List ℕ → Totals
totals_after t chunk =
    let c = chunk_of t.tape.records t.tape.next chunk in
    let p = after_bytes (account_at Point t) (bytes_on Point c.records) in
    let a = after_bytes (account_at Addressed t) (bytes_on Addressed c.records) in
    totals_of (t.tape.records + length c.records) c.next p a

-- ---- the calls

-- sums that so many records cannot give: frames or bytes heard over their number, bytes inside images or reserved over 130 for each
abbrev pub bad_sums : ℕ → Sums → Bool
bad_sums records s =
    ltb records s.frames || (ltb records s.heard || (ltb (most_image * records) s.inside || ltb (most_image * records) s.reserved))

-- in the sense of row 4: a tape that the listing refuses, or such sums, is BadState
abbrev pub bad_totals : Totals → Bool
bad_totals t = bad_tape t.tape || (bad_sums t.tape.records t.point || bad_sums t.tape.records t.addressed)

-- a call's result in the paper's numbers
pub record AddedOut : Type 0 where
  pub refusal : ℕ
  pub totals : Totals

-- of a call on these totals; refused, it leaves them as before
abbrev pub added_out : Totals → Result Totals Refusal → AddedOut
added_out t (Ok after) = record { refusal = 0; totals = after }
added_out t (Err why) = record { refusal = number why; totals = t }

-- a chunk is taken whole; a refused call leaves the totals as before
unfoldable pub added : Totals → List ℕ → AddedOut
added t chunk = cond (bad_totals t) (record { refusal = number BadState; totals = t }) (record { refusal = 0; totals = totals_after t chunk })

-- refused, it is no report
abbrev pub reported_by : Result Report Refusal → Reported
reported_by (Ok r) = in_order r.first r.second r.ending r.records
reported_by (Err why) = no_report why

-- the report of a tape that has no byte more. Order: 4, 10
unfoldable pub reported : Totals → Reported
reported t =
    let e = ending t.tape.next in
    cond (bad_totals t) (no_report BadState)
    (cond (is_full e) (no_report TapeTooLong) (ranked t.point t.addressed e t.tape.records))
