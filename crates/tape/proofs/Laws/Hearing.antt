-- How the loop over gathered bodies goes: what is left of them gives what all of them give.
-- Assumes nothing.
use mathlib.Core.Path.{◌≡◌, refl, sym, ap, ap₂, subst⁻¹, ◌∙◌}
use mathlib.Core.Bool.{Bool, false, cond}
use mathlib.Core.List.{List}
use Prim.Native.Nat.{ℕ, ◌+◌, ◌-◌, ◌≤◌, ◌<◌}
use native.Mathlib.Nat.{add-zero, zero-add, add_assoc}
use native.Mathlib.Omega.{arith}
use lib.ListN.{length, drop, length-drop, drop_of_length-le}
use lib.Seq.{drop-drop}
use Rattle.std.specs.Prelude.{Result, Ok, Err}
use Rattle.std.specs.Result.{IsOk}
use Rattle.ground.specs.declared.refusal.Refusal.{Refusal}
use Rattle.ground.specs.declared.refusal.Refusal.TheVariants.{BadState}
use Rattle.ground.specs.Refusals.{number}
use Rattle.ground.specs.Laying.{laid, Ended, ended, placed, put}
use Rattle.ground.proofs.Laws.Refusals.{number-some}
use Rattle.ground.proofs.Laws.Laying.{length-laid, put-placed, placed-nil, placed-more}
use Rattle.link_spec.specs.declared.receiver.Receiver.{Receiver}
use Rattle.link_spec.specs.declared.receiver.Heard.{Heard}
use Rattle.link_spec.specs.Receiving.{Said, saying, bad_receiver, received}
use Rattle.link_spec.proofs.Laws.Receiving.{refused-only, received-takes, stays-good}
use Rattle.tape_spec.specs.declared.tape.Line.{Line}
use Rattle.tape_spec.specs.Limits.{least_room, most_records}
use Rattle.tape_spec.proofs.Laws.Taping.{heard-row-within}
use Rattle.tape.specs.Running.{Run, resting, running, Left, run_left}
use Rattle.tape.proofs.Laws.Running.{call_text, Hears, running-full, running-piece}

-- a call on a receiver that is not bad is not refused, and neither is a row that has room
pub heard-ok : (s : Receiver) (piece : List ℕ) (r : Result Heard Refusal) → bad_receiver s ≡ false → saying s r ≡ received s piece → IsOk r
heard-ok s piece (Ok h) good says = refl
heard-ok s piece (Err why) good says =
    absurd (number-some why (ap (λ (d : Said). d.refusal) says ∙ refused-only s piece ∙ ap (λ (b : Bool). cond b (number BadState) 0) good))

put-ok : (bytes out : List ℕ) (at : ℕ) (r : Result ℕ Refusal) (o : List ℕ) → ended at r o ≡ put bytes out at → length bytes ≤ length out - at
    → IsOk r
put-ok bytes out at (Ok end) o says fits = refl
put-ok bytes out at (Err why) o says fits = absurd (number-some why (ap (λ (e : Ended). e.refusal) (says ∙ put-placed bytes out at fits)))

-- a result with where its rows end and what they left
abbrev left_by : Receiver → ℕ → Ended → Left
left_by s count e = record { receiver = s; count = count; end = e.end; out = e.out }

-- after some bodies whose rows end here
abbrev pub leaving_after : ℕ → Run → List ℕ → ℕ → Left
leaving_after count w out end = left_by w.receiver (count + w.count) (placed w.text out end)

pub none_before : (w : Run) (out : List ℕ) (end : ℕ) → leaving_after 0 w out end ≡ run_left w out end
none_before w out end = ap (λ (k : ℕ). left_by w.receiver k (placed w.text out end)) (zero-add w.count)

module _ (line : Line) (records : ℕ) (bodies : List ℕ) (all : Left) where
  -- `count` bodies were heard, and their rows end at `end`
  pub record Goes (out : List ℕ) (s : Receiver) (count end : ℕ) : Type 0 where
    pub part : count ≤ length bodies
    pub good : bad_receiver s ≡ false
    pub ends : end ≤ length out
    pub same : leaving_after count (running (length out - end) line (records + count) s (drop count bodies)) out end ≡ all

  module _ {out : List ℕ} {s : Receiver} {count end : ℕ} (goes : Goes out s count end) where
    abbrev here : Left
    here = record { receiver = s; count = count; end = end; out = out }

    -- none is left to hear
    stands : running (length out - end) line (records + count) s (drop count bodies) ≡ resting s → here ≡ all
    stands none =
        ap₂ (left_by s) (sym (add-zero count)) (sym (placed-nil out end))
        ∙ ap (λ (w : Run). leaving_after count w out end) (sym none)
        ∙ goes.same

    pub out-of-room : length out - end < least_room → here ≡ all
    out-of-room full = stands (running-full line (length out - end) (records + count) s (drop count bodies) full)

    pub out-of-bodies : length bodies ≤ count → here ≡ all
    unfolding running
    out-of-bodies over = stands (rw (drop_of_length-le bodies over))

    -- a call on all that is left takes some of it
    pub takes-some : count < length bodies → 0 < (received s (drop count bodies)).taken
    takes-some more = (received-takes s (drop count bodies) goes.good).some (rw (length-drop count bodies) (omega arith))

    pub takes-most : count + (received s (drop count bodies)).taken ≤ length bodies
    takes-most = omega (arith, (received-takes s (drop count bodies) goes.good).most, length-drop count bodies, goes.part)

    -- and the row that it puts
    module _ (few : records + length bodies ≤ most_records) (fits : least_room ≤ length out - end) where
      abbrev left : List ℕ
      left = drop count bodies

      abbrev said : Said
      said = received s left

      abbrev text : List ℕ
      text = call_text line (records + count) said

      text-fits : length text ≤ length out - end
      text-fits =
          let n : records + count + (said.taken - 1) ≤ most_records = omega (arith, takes-most) in
          omega (arith, heard-row-within (records + count + (said.taken - 1)) line s left n)

      -- what is left after it, in the buffer that it left
      rest-same : let w =
          running (length out - end - length text) line (records + count + said.taken) said.receiver (drop said.taken left) in
          leaving_after (count + said.taken) w (laid out end text) (end + length text)
          ≡ leaving_after count (running (length out - end) line (records + count) s left) out end
      unfolding Hears
      rest-same =
          let w = running (length out - end - length text) line (records + count + said.taken) said.receiver (drop said.taken left) in
          ap₂ (left_by w.receiver) (add_assoc count said.taken w.count) (placed-more text w.text out end goes.ends)
          ∙ ap (λ (v : Run). leaving_after count v out end)
          (sym (running-piece line left (length out - end) (records + count) s goes.good fits))

      pub row-ok : (r : Result ℕ Refusal) (o : List ℕ) → ended end r o ≡ put text out end → IsOk r
      row-ok r o says = put-ok text out end r o says text-fits

      pub next-call : {e : Ended} → e ≡ put text out end → Goes e.out said.receiver (count + said.taken) e.end
      next-call says =
          let puts = says ∙ put-placed text out end text-fits in
          let size : length (laid out end text) ≡ length out = length-laid out end text (omega (arith, text-fits, goes.ends)) in
          let room : length (laid out end text) - (end + length text) ≡ length out - end - length text = omega arith in
          let far : records + (count + said.taken) ≡ records + count + said.taken = omega arith in
          let rest : drop (count + said.taken) bodies ≡ drop said.taken left = sym (drop-drop said.taken count bodies) in
          subst⁻¹ (λ (e : Ended). Goes e.out said.receiver (count + said.taken) e.end) puts
          (record {
            part = takes-most;
            good = stays-good s left goes.good;
            ends = omega (arith, text-fits, goes.ends);
            same =
                (λ i. leaving_after (count + said.taken) (running (room i) line (far i) said.receiver (rest i)) (laid out end text)
                (end + length text))
                ∙ rest-same
                ∙ goes.same;
          })
