-- How the loop over a chunk goes: what is left of the chunk gives what the whole chunk gives.
-- Assumes nothing.
use mathlib.Core.Path.{◌≡◌, refl, sym, ap, ap₂, subst⁻¹, ◌∙◌}
use mathlib.Core.Bool.{true, false}
use mathlib.Core.List.{List, [], ◌∷◌}
use Prim.Native.Nat.{ℕ, ◌+◌, ◌*◌, ◌-◌, ◌≤◌, ◌<◌}
use native.Mathlib.Nat.{add-zero, zero-add, add_assoc}
use native.Mathlib.Omega.{arith}
use lib.ListN.{length, drop, get_or, length-take, length-drop, drop_of_length-le}
use lib.Seq.{drop-drop}
use Rattle.ground.specs.Laying.{laid, Ended, placed}
use Rattle.ground.proofs.Laws.Lists.{drop-next}
use Rattle.ground.proofs.Laws.Laying.{length-laid, placed-nil, placed-more}
use Rattle.link_spec.specs.Receiving.{bad_receiver}
use Rattle.tape_spec.specs.declared.tape.Line.{Line}
use Rattle.tape_spec.specs.Limits.{least_room, most_records}
use Rattle.tape_spec.specs.declared.tape.Next.TheVariants.{Kind, Body}
use Rattle.tape_spec.specs.declared.tape.Receivers.{Receivers}
use Rattle.tape_spec.specs.declared.tape.Tape.{Tape}
use Rattle.tape_spec.specs.Whole.{kind_of, receiver_on, with_receiver}
use Rattle.tape_spec.specs.Taping.{tape_of, after_kind, is_over, Went, standing, going, ListedOut, listed_to, text_written, bad_tape}
use Rattle.tape_spec.proofs.Laws.Fine.{kind-fine, with-receiver-fine, on_fine, receivers-fine, body-permitted, tape-fine}
use Rattle.tape_spec.proofs.Laws.Taping.{went_after}
use Rattle.tape.specs.Running.{linked, laced, Run, running, Left, RunHeard}
use Rattle.tape.proofs.Laws.Going.{going-over, going-full, going-kind, running-some, running-within, running-good, goes_on}

-- what a result says, over this buffer
abbrev pub over : List ℕ → ListedOut → ListedOut
over out d = record { refusal = d.refusal; tape = d.tape; taken = d.taken; written = d.written; out = out }

-- a result with where its text ends and what it left
abbrev wrote : Tape → ℕ → Ended → ListedOut
wrote t taken e = listed_to t taken e.end e.out

-- after some bytes whose text ends here
abbrev pub writing_after : ℕ → Went → List ℕ → ℕ → ListedOut
writing_after taken w out written = wrote w.tape (taken + w.taken) (placed w.text out written)

pub none-taken : (t : Tape) (chunk out : List ℕ)
    → writing_after 0 (going (length out - 0) t (drop 0 chunk)) out 0 ≡ text_written (going (length out) t chunk) out
none-taken t chunk out =
    let all : length out - 0 ≡ length out = omega arith in
    let w = going (length out) t chunk in
    ap (λ (room : ℕ). writing_after 0 (going room t chunk) out 0) all
    ∙ ap₂ (λ (n k : ℕ). listed_to w.tape n k (laid out 0 w.text)) (zero-add w.taken) (zero-add (length w.text))

-- what was gone over is part of what was taken and written before
writing_more : (taken k : ℕ) (text : List ℕ) (w : Went) (out : List ℕ) (written : ℕ) → written ≤ length out
    → writing_after (taken + k) w (laid out written text) (written + length text) ≡ writing_after taken (went_after k text w) out written
writing_more taken k text w out written ends =
    ap₂ (wrote w.tape) (add_assoc taken k w.taken) (placed-more text w.text out written ends)

length-laced : (k : ℕ) (bs : List ℕ) → length (laced k bs) ≡ 2 * length bs
unfolding laced
length-laced k [] = refl
length-laced k (b ∷ bs) = let h = length-laced k bs in omega arith

length-linked : (k : ℕ) (bs : List ℕ) → 1 ≤ length bs → length (linked k bs) ≡ 2 * length bs - 1
length-linked k [] some = absurd (omega arith)
length-linked k (b ∷ bs) some = let h = length-laced k bs in omega arith

module _ (chunk : List ℕ) (all : ListedOut) where
  -- `taken` bytes were taken, and their text ends at `written`
  pub record Goes (out : List ℕ) (t : Tape) (taken written : ℕ) : Type 0 where
    pub part : taken ≤ length chunk
    pub few : t.records ≤ most_records
    pub fine : bad_tape t ≡ false
    pub ends : written ≤ length out
    pub same : writing_after taken (going (length out - written) t (drop taken chunk)) out written ≡ all

  module _ {out : List ℕ} {t : Tape} {taken written : ℕ} (goes : Goes out t taken written) where
    -- nothing more is taken
    stands : going (length out - written) t (drop taken chunk) ≡ standing t → listed_to t taken written out ≡ all
    stands none =
        ap₂ (wrote t) (sym (add-zero taken)) (sym (placed-nil out written))
        ∙ ap (λ (w : Went). writing_after taken w out written) (sym none)
        ∙ goes.same

    pub at-end : length chunk ≤ taken → listed_to t taken written out ≡ all
    unfolding going
    at-end over = stands (rw (drop_of_length-le chunk over))

    pub out-of-room : length out - written < least_room → listed_to t taken written out ≡ all
    out-of-room full = stands (going-full (length out - written) t (drop taken chunk) full)

    pub at_last : is_over t.next ≡ true → listed_to t taken written out ≡ all
    at_last over = stands (going-over (length out - written) t (drop taken chunk) over)

  module _ {out : List ℕ} {n : ℕ} {r : Receivers} {taken written : ℕ} where
    -- a kind byte
    pub next-kind : least_room ≤ length out - written → taken < length chunk → Goes out (tape_of n Kind r) taken written
        → Goes out (tape_of n (after_kind n (get_or chunk taken 0)) r) (taken + 1) written
    next-kind fits more goes =
        let k = get_or chunk taken 0 in
        record {
          part = omega arith;
          few = goes.few;
          fine = tape-fine n (after_kind n k) r (receivers-fine (tape_of n Kind r) goes.fine) (kind-fine n k);
          ends = goes.ends;
          same =
              let g = going (length out - written) (tape_of n (after_kind n k) r) (drop (taken + 1) chunk) in
              ap (λ (m : ℕ). wrote g.tape m (placed g.text out written)) (add_assoc taken 1 g.taken)
              ∙ ap (λ (w : Went). writing_after taken w out written)
              (sym (going-kind (length out - written) n r k (drop (taken + 1) chunk) fits)
              ∙ ap (going (length out - written) (tape_of n Kind r)) (sym (drop-next chunk taken more)))
              ∙ goes.same;
        }

    -- before a body the record is permitted, and the receiver of its line is good
    pub permitted : {line : Line} → Goes out (tape_of n (Body line) r) taken written → n < most_records
    permitted {line} goes = body-permitted n line r goes.fine goes.few

    pub on-good : (line : Line) → Goes out (tape_of n (Body line) r) taken written → bad_receiver (receiver_on line r) ≡ false
    on-good line goes = on_fine line r (receivers-fine (tape_of n (Body line) r) goes.fine)

    -- bodies in a row on one line
    module _ {line : Line} {after : Left} (fits : least_room ≤ length out - written)
        (goes : Goes out (tape_of n (Body line) r) taken written)
        (heard : RunHeard line (receiver_on line r) n (drop taken chunk) out written after) where
      ran : Run
      ran = running (length out - written) line n (receiver_on line r) heard.bodies

      bodies-few : n + length heard.bodies ≤ most_records
      bodies-few = omega (arith, permitted goes, heard.gathered.within)

      bodies-part : taken + (2 * length heard.bodies - 1) ≤ length chunk
      bodies-part =
          omega (
            arith,
            ap length heard.gathered.front ∙ length-linked (kind_of line) heard.bodies heard.gathered.some,
            length-take (2 * length heard.bodies - 1) (drop taken chunk),
            length-drop taken chunk,
            goes.part,
          )

      within : (ran.count ≤ length heard.bodies) × (length ran.text ≤ length out - written)
      unfolding ran
      within = running-within line heard.bodies (length out - written) n (receiver_on line r) bodies-few

      heard-some : 1 ≤ ran.count
      unfolding ran
      heard-some = some-heard heard.bodies heard.gathered.some
        where
          some-heard : (bs : List ℕ) → 1 ≤ length bs → 1 ≤ (running (length out - written) line n (receiver_on line r) bs).count
          some-heard [] some = absurd (omega arith)
          some-heard (b ∷ bs) some = running-some line (length out - written) n (receiver_on line r) b bs fits

      -- after them, in the buffer that they left
      after_run : Goes (laid out written ran.text) (tape_of (n + ran.count) Kind (with_receiver line ran.receiver r))
          (taken + (2 * ran.count - 1)) (written + length ran.text)
      unfolding ran
      after_run =
          let c = ran.count in
          let text = ran.text in
          let t = tape_of (n + c) Kind (with_receiver line ran.receiver r) in
          let size : length (laid out written text) ≡ length out = length-laid out written text (omega (arith, within.1, goes.ends)) in
          let left : length (laid out written text) - (written + length text) ≡ length out - written - length text = omega arith in
          let g = going (length out - written - length text) t (drop (2 * c - 1) (drop taken chunk)) in
          record {
            part = omega (arith, within.0, bodies-part);
            few = omega (arith, within.0, bodies-few);
            fine = tape-fine (n + c) Kind (with_receiver line ran.receiver r) (with-receiver-fine line ran.receiver r
                (running-good line heard.bodies (length out - written) n (receiver_on line r) (on-good line goes))
                (receivers-fine (tape_of n (Body line) r) goes.fine)) refl;
            ends = omega (arith, within.1, goes.ends, size);
            same =
                ap₂ (λ (m : ℕ) (l : List ℕ). writing_after (taken + (2 * c - 1)) (going m t l) (laid out written text)
                (written + length text))
                left (sym (drop-drop (2 * c - 1) taken chunk))
                ∙ writing_more taken (2 * c - 1) text g out written goes.ends
                ∙ ap (λ (w : Went). writing_after taken w out written)
                (sym (goes_on line (length out - written) n r (drop taken chunk) heard.bodies fits (permitted goes) heard.gathered))
                ∙ goes.same;
          }

      -- as the call answered
      pub next-run : Goes after.out (tape_of (n + after.count) Kind (with_receiver line after.receiver r)) (taken + (2 * after.count - 1))
          after.end
      unfolding ran
      next-run =
          subst⁻¹ (λ (a : Left). Goes a.out (tape_of (n + a.count) Kind (with_receiver line a.receiver r)) (taken + (2 * a.count - 1))
          a.end)
          heard.ran after_run

      pub run-some : 1 ≤ after.count
      unfolding ran
      run-some = subst⁻¹ (λ (a : Left). 1 ≤ a.count) heard.ran heard-some
