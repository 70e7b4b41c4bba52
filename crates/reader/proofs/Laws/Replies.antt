-- A reply's frame is written whole: it fits the buffers that a reader is lent.
-- Assumes nothing.
use mathlib.Core.Path.{◌≡◌, ap, ◌∙◌}
use mathlib.Core.Bool.{Bool, cond}
use mathlib.Core.List.{List}
use Prim.Native.Nat.{ℕ, ◌≤◌}
use native.Mathlib.Omega.{arith}
use lib.ListN.{length, take, drop, length-append}
use lib.Seq.{take-append_seam}
use Rattle.std.specs.Prelude.{Result}
use Rattle.ground.specs.declared.refusal.Refusal.{Refusal}
use Rattle.ground.specs.Refusals.{tally, counted}
use Rattle.wire_spec.specs.Image.{image}
use Rattle.wire_spec.specs.Writing.{After, after, leaving}
use Rattle.link_spec.specs.Limits.{most_data}
use Rattle.link_spec.specs.Frame.{point_content}
use Rattle.link_spec.specs.Writers.{point_written}
use Rattle.link_spec.proofs.Laws.Writers.{point-writes}
use Rattle.request_spec.specs.declared.parameter.Parameter.{Parameter}
use Rattle.request_spec.specs.declared.command.Card.{Card}
use Rattle.request_spec.specs.declared.command.Command.{Command}
use Rattle.request_spec.specs.Cards.{is_code}
use Rattle.request_spec.specs.Replies.{NACK, DATA, no_card}
use Rattle.reader_spec.specs.Limits.{room}
use Rattle.reader_spec.specs.Replies.{reply_content, reply_to}
use Rattle.reader_spec.proofs.Laws.Replies.{point-room}
use Rattle.reader.specs.Replies.{Fills}

-- the writer refuses no frame with data within the limit
pub reply-put : (r : Result ℕ Refusal) (identifier command : ℕ) («data» out : List ℕ) {out' : List ℕ} → length «data» ≤ most_data → room ≤ length out
    → after r out' ≡ point_written identifier command «data» out
    → Fills (tally r).count out' (point_content identifier command «data») out
reply-put r identifier command «data» out fits long says =
    let within = point-room identifier command «data» fits in
    let written = says ∙ point-writes identifier command «data» out fits (omega arith) in (
      ap (λ (a : After). leaving (counted a.tally.count) a.out) written,
      omega (arith, ap (λ (a : After). a.tally.count) written),
    )

-- what was put stands in front
pub puts-front : {n : ℕ} {out' : List ℕ} (content out : List ℕ) → Fills n out' content out → take n out' ≡ image content
puts-front content out (e, within) =
    ap (λ (a : After). take a.tally.count a.out) e
    ∙ take-append_seam (image content) _

-- so much of out is there to be copied
pub puts-within : {n : ℕ} {out' : List ℕ} (content out : List ℕ) → Fills n out' content out → n ≤ length out'
puts-within content out put =
    let n = ap (λ (a : After). a.tally.count) put.0 in
    let long = ap (λ (a : After). length a.out) put.0 in
    omega (arith, n, long, length-append (image content) (drop (length (image content)) out))

-- a card's reply, by its test
pub puts-card : {n : ℕ} {out' : List ℕ} {command : Command} {card : Card} {t : Bool} (identifier code : ℕ) (value : Parameter → List ℕ)
    (header antenna out : List ℕ)
    → command ≡ Command.Card card
    → is_code card (length antenna) ≡ t
    → Fills n out' (reply_content identifier code (cond t (DATA antenna) (NACK no_card))) out
    → Fills n out' (reply_content identifier code (reply_to value command header antenna)) out
unfolding reply_to
puts-card identifier code value header antenna out asked whole put = rw (asked, whole) put
