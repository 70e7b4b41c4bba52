-- A refused call answers count 0, no event, an empty part: the statements' refusals one by one.
-- Assumes nothing.
use mathlib.Core.Path.{◌≡◌, refl, ap, ◌∙◌}
use mathlib.Core.Bool.{Bool, true, false, cond, not, not-eq-not}
use mathlib.Core.List.{List}
use mathlib.Core.Option.{none}
use Prim.Native.Nat.{ℕ, ◌-◌}
use lib.Dec.{ltb, eqb}
use lib.ListN.{length, get_or}
use Rattle.std.specs.Prelude.{Result, Ok, Err}
use Rattle.ground.specs.declared.refusal.Refusal.{Refusal}
use Rattle.ground.specs.Refusals.{Tally, AnswersOnly}
use Rattle.ground.specs.Laying.{Ended, put}
use Rattle.ground.proofs.Laws.Choice.{cond-elim, by-test}
use Rattle.wire_spec.specs.Limits.{most_content}
use Rattle.wire_spec.specs.Image.{image}
use Rattle.wire_spec.specs.Writing.{After, length_asked, image_written}
use Rattle.link_spec.specs.declared.receiver.Receiver.{Receiver}
use Rattle.link_spec.specs.declared.station.Station.TheVariants.{Addressed}
use Rattle.link_spec.specs.Limits.{most_data}
use Rattle.link_spec.specs.Address.{is_never, is_station}
use Rattle.link_spec.specs.Frame.{point_content, addressed_content}
use Rattle.link_spec.specs.Writers.{written_unless, point_written, addressed_written}
use Rattle.link_spec.specs.Events.{NONE}
use Rattle.link_spec.specs.Receiving.{fresh_receiver, fresh_made, bad_receiver, not_heard, heard, Said, received, BadReceiver}
use Rattle.link_spec.proofs.Laws.Receiving.{bad-is, refused-only}
use Rattle.request_spec.specs.declared.command.Command.{Command}
use Rattle.request_spec.specs.declared.command.Fault.{Fault}
use Rattle.request_spec.specs.Acceptance.{acceptance, is_accepted}
use Rattle.request_spec.specs.Replies.{data_of, ack_byte}
use Rattle.request_spec.specs.Requesting.{request_written}
use Rattle.request_spec.specs.Reading.{Understood, not_read, is_write, is_due, data_read, is_nack, reason_read, sign_read, wrong_id, is_sign, wrong_command, read_as, read_by, reply_read}
use Rattle.tape_spec.specs.declared.tape.Tape.{Tape}
use Rattle.tape_spec.specs.declared.tape.Line.TheVariants.{Point, Addressed as AddressedLine}
use Rattle.tape_spec.specs.declared.tape.Ending.TheVariants.{End as END}
use Rattle.tape_spec.specs.Taping.{ListedOut, listed, ending}
use Rattle.tape_spec.proofs.Laws.Taping.{listed-elim}
use Rattle.totals_spec.specs.declared.totals.Totals.{Totals}
use Rattle.totals_spec.specs.Whole.{line_report, Reported, nothing, is_full}
use Rattle.totals_spec.specs.Adding.{bad_totals, reported}
use Rattle.totals_spec.proofs.Laws.Ranking.{ranked-rest}

-- ---- counts

abbrev Counts : After → Type 0
Counts a = AnswersOnly a.tally.refusal 0 a.tally.count

pub length-counts : (content : List ℕ) → AnswersOnly (length_asked content).refusal 0 (length_asked content).count
unfolding length_asked
length-counts content =
    cond-elim (λ (t : Tally). AnswersOnly t.refusal 0 t.count) (ltb most_content (length content)) (λ over refused. refl)
    (λ within refused. absurd (refused refl))

pub image-counts : (content out : List ℕ) → Counts (image_written content out)
unfolding image_written
image-counts content out =
    cond-elim Counts (ltb (length out) (length (image content))) (λ short refused. refl) (λ fits refused. absurd (refused refl))

writer-counts : (never : Bool) («data» content out : List ℕ) → Counts (written_unless never «data» content out)
unfolding written_unless
writer-counts never «data» content out =
    cond-elim Counts (ltb most_data (length «data»)) (λ long refused. refl)
    (λ fits. cond-elim Counts never (λ bad refused. refl) (λ good. image-counts content out))

pub point-counts : (identifier command : ℕ) («data» out : List ℕ) → Counts (point_written identifier command «data» out)
unfolding point_written
point-counts identifier command «data» out = writer-counts false «data» (point_content identifier command «data») out

pub addressed-counts : (address identifier command : ℕ) («data» out : List ℕ) → Counts (addressed_written address identifier command «data» out)
unfolding addressed_written
addressed-counts address identifier command «data» out =
    writer-counts (is_never address) «data» (addressed_content address identifier command «data») out

pub request-counts : (identifier code : ℕ) («data» out : List ℕ) → Counts (request_written identifier code «data» out)
unfolding request_written
request-counts identifier code «data» out =
    cond-elim Counts (is_accepted (acceptance code «data»)) (λ asked. image-counts (point_content identifier code «data») out)
    (λ bad refused. refl)

pub put-stops : (bytes out : List ℕ) (at : ℕ) → AnswersOnly (put bytes out at).refusal at (put bytes out at).end
unfolding put
put-stops bytes out at =
    cond-elim (λ (e : Ended). AnswersOnly e.refusal at e.end) (ltb (length out - at) (length bytes)) (λ short refused. refl)
    (λ fits refused. absurd (refused refl))

-- ---- no event

abbrev Silent : Said → Type 0
Silent a = AnswersOnly a.refusal NONE a.event × AnswersOnly a.refusal 0 a.length × AnswersOnly a.refusal 0 a.taken

pub received-silent : (s : Receiver) (piece : List ℕ) → Silent (received s piece)
unfolding received
received-silent s piece =
    by-test
    (λ (t : Bool). (cond t (not_heard s) (heard 0 s piece)).refusal ≡ cond t 4 0 → Silent (cond t (not_heard s) (heard 0 s piece)))
    (bad_receiver s) (λ bad is. ((λ refused. refl), (λ refused. refl), (λ refused. refl)))
    (λ good none. ((λ refused. absurd (refused none)), (λ refused. absurd (refused none)), (λ refused. absurd (refused none))))
    (refused-only s piece)

-- and no receiver is refused but for row 4
pub received-unrefused : (s : Receiver) (piece : List ℕ) → (BadReceiver s → ⊥) → (received s piece).refusal ≡ 0
received-unrefused s piece good =
    refused-only s piece ∙ ap (λ (t : Bool). cond t 4 0) ((not-eq-not {b = false}).0 (λ (bad : bad_receiver s ≡ true). good ((bad-is s).0 bad)))

-- a receiver that comes with the refusal of a new station is refused by every call
pub new-refused : (own : ℕ) (piece : List ℕ) → ((fresh_made own).refusal ≡ 0 → ⊥) → (received (fresh_made own).receiver piece).refusal ≡ 4
unfolding fresh_made received
new-refused own piece =
    by-test
    (λ (t : Bool). (◌≡◌ {A = ℕ} (cond t 0 3) 0 → ⊥)
    → (cond (not t) (not_heard (fresh_receiver (Addressed own))) (heard 0 (fresh_receiver (Addressed own)) piece)).refusal ≡ 4)
    (is_station own) (λ is refused. absurd (refused refl)) (λ other refused. refl)

-- ---- no meaning

abbrev Meaningless : Understood → Type 0
Meaningless o = AnswersOnly o.refusal none o.meaning

module _ (identifier code : ℕ) («data» reply : List ℕ) where
  refuses : (why : Refusal) → Meaningless (not_read why)
  refuses why refused = refl

  data-meaningless : (command : Command) (bytes : List ℕ) → Meaningless (data_read command bytes)
  unfolding data_read
  data-meaningless command bytes =
      cond-elim Meaningless (is_due command (length bytes)) (λ due refused. absurd (refused refl)) (λ other refused. refl)

  sign-meaningless : (command : Command) (bytes : List ℕ) → Meaningless (sign_read command bytes)
  unfolding sign_read reason_read
  sign-meaningless command bytes =
      cond-elim Meaningless (eqb (length bytes) 1)
      (λ one. cond-elim Meaningless (eqb (get_or bytes 0 0) ack_byte)
      (λ ack. cond-elim Meaningless (is_write command) (λ write refused. absurd (refused refl)) (λ other refused. refl))
      (λ nack. cond-elim Meaningless (is_nack (get_or bytes 0 0)) (λ known refused. absurd (refused refl)) (λ unknown refused. refl)))
      (λ more refused. refl)

  by-meaningless : (k : Result Command Fault) → Meaningless (read_by identifier code reply k)
  unfolding read_as
  by-meaningless (Err fault) = λ refused. refl
  by-meaningless (Ok command) =
      cond-elim Meaningless (wrong_id identifier reply) (λ wrong refused. refl)
      (λ own. cond-elim Meaningless (wrong_command code reply) (λ wrong refused. refl)
      (λ right. cond-elim Meaningless (is_sign reply) (λ sign. sign-meaningless command (data_of reply))
      (λ plain. data-meaningless command (data_of reply))))

  pub reply-meaningless : Meaningless (reply_read identifier code «data» reply)
  unfolding reply_read
  reply-meaningless = by-meaningless (acceptance code «data»)

-- ---- nothing taken or written

pub listed-counts : (t : Tape) (chunk out : List ℕ) → let d = listed t chunk out in
    AnswersOnly d.refusal 0 d.taken × AnswersOnly d.refusal 0 d.written
listed-counts t chunk out =
    listed-elim (λ (d : ListedOut). AnswersOnly d.refusal 0 d.taken × AnswersOnly d.refusal 0 d.written) t chunk out
    (λ why. ((λ refused. refl), (λ refused. refl))) (λ fine roomy. ((λ refused. absurd (refused refl)), (λ refused. absurd (refused refl))))

-- ---- zeros

pub reported-zeros : (t : Totals) → let r = reported t in
    AnswersOnly r.refusal (line_report Point nothing) r.first
    × AnswersOnly r.refusal (line_report AddressedLine nothing) r.second
    × AnswersOnly r.refusal END r.ending
    × AnswersOnly r.refusal 0 r.records
unfolding reported
reported-zeros t =
    let e = ending t.tape.next in
    let Zeros : Reported → Type 0 = λ r. AnswersOnly r.refusal (line_report Point nothing) r.first
    × AnswersOnly r.refusal (line_report AddressedLine nothing) r.second
    × AnswersOnly r.refusal END r.ending
    × AnswersOnly r.refusal 0 r.records in
    let none = (ranked-rest t.point t.addressed e t.tape.records).0 in
    cond-elim Zeros (bad_totals t) (λ bad. ((λ refused. refl), (λ refused. refl), (λ refused. refl), (λ refused. refl)))
    (λ good. cond-elim Zeros (is_full e) (λ full. ((λ refused. refl), (λ refused. refl), (λ refused. refl), (λ refused. refl)))
    (λ short. (
      (λ refused. absurd (refused none)),
      (λ refused. absurd (refused none)),
      (λ refused. absurd (refused none)),
      (λ refused. absurd (refused none)),
    )))
