-- How a call goes over its chunk: where it stops, over a kind byte, and over bodies in a row on one line together.
-- Assumes nothing.
use mathlib.Core.Path.{◌≡◌, refl, sym, ap, ap₂, subst⁻¹, ◌∙◌}
use mathlib.Core.Bool.{true, false, or-true}
use mathlib.Core.List.{List, [], ◌∷◌, ◌++◌, append-nil, append_assoc}
use Prim.Native.Nat.{ℕ, suc, ◌+◌, ◌*◌, ◌-◌, ◌≤◌, ◌<◌, zero-le}
use native.Mathlib.Decide.{dec_le}
use native.Mathlib.Omega.{arith}
use borrow.Author.Tests.{lt-ltb, ltb-false, ne_eqb}
use lib.Dec.{ltb}
use lib.ListN.{length, drop, length-append, take-append-drop}
use Rattle.ground.proofs.Laws.Choice.{cond-elim}
use Rattle.link_spec.specs.declared.receiver.Receiver.{Receiver}
use Rattle.link_spec.specs.Receiving.{bad_receiver, received}
use Rattle.link_spec.proofs.Laws.Receiving.{stays-good}
use Rattle.tape_spec.specs.declared.tape.Line.{Line}
use Rattle.tape_spec.specs.declared.tape.Line.TheVariants.{Point, Addressed}
use Rattle.tape_spec.specs.Limits.{least_room, most_records}
use Rattle.tape_spec.specs.Rows.{heard_row}
use Rattle.tape_spec.specs.declared.tape.Next.{Next}
use Rattle.tape_spec.specs.declared.tape.Next.TheVariants.{Kind, Body}
use Rattle.tape_spec.specs.declared.tape.Receivers.{Receivers}
use Rattle.tape_spec.specs.declared.tape.Tape.{Tape}
use Rattle.tape_spec.specs.Whole.{kind_of, receiver_on, with_receiver}
use Rattle.tape_spec.specs.Taping.{tape_of, after_kind, advance, is_over, Went, standing, going}
use Rattle.tape_spec.proofs.Laws.Taping.{went_after, going_step, heard-row-within}
use Rattle.tape_spec.proofs.Laws.Whole.{kind-known}
use Rattle.tape.specs.Running.{laced, Gathered, Run, resting, running}
use Rattle.tape.proofs.Laws.Running.{run_after, running-step, running-full}

-- ---- where it stops, and a kind byte

pub going-over : (room : ℕ) (t : Tape) (l : List ℕ) → is_over t.next ≡ true → going room t l ≡ standing t
unfolding going
going-over room t [] over = refl
going-over room t (b ∷ bs) over = rw over

pub going-full : (room : ℕ) (t : Tape) (l : List ℕ) → room < least_room → going room t l ≡ standing t
unfolding going
going-full room t [] h = refl
going-full room t (b ∷ bs) h = rw (lt-ltb room least_room h, or-true)

-- a kind byte has no text
pub going-kind : (room n : ℕ) (r : Receivers) (k : ℕ) (l : List ℕ) → least_room ≤ room
    → going room (tape_of n Kind r) (k ∷ l) ≡ went_after 1 [] (going room (tape_of n (after_kind n k) r) l)
unfolding advance
going-kind room n r k l h =
    let all : room - 0 ≡ room = omega arith in
    going_step room (tape_of n Kind r) k l refl h ∙ ap (λ (m : ℕ). went_after 1 [] (going m (tape_of n (after_kind n k) r) l)) all

-- ---- bodies in a row

on-with-receiver : (line : Line) (s : Receiver) (r : Receivers) → receiver_on line (with_receiver line s r) ≡ s
on-with-receiver Point s r = refl
on-with-receiver Addressed s r = refl

with-receiver-with-receiver : (line : Line) (s u : Receiver) (r : Receivers) → with_receiver line u (with_receiver line s r) ≡ with_receiver line u r
with-receiver-with-receiver Point s u r = refl
with-receiver-with-receiver Addressed s u r = refl

-- after the kind of a permitted record comes its body
body-next : (line : Line) (n : ℕ) → n < most_records → after_kind n (kind_of line) ≡ Body line
unfolding after_kind
body-next line n h = rw (ne_eqb n most_records (λ e. absurd (omega arith)), kind-known line)

pub running-some : (line : Line) (room n : ℕ) (s : Receiver) (b : ℕ) (bs : List ℕ) → least_room ≤ room
    → 1 ≤ (running room line n s (b ∷ bs)).count
running-some line room n s b bs h = rw (ap (λ (w : Run). w.count) (running-step line room n s b bs h)) (omega arith)

module _ (line : Line) where
  -- where a call stands that went over bodies at the front of what was left
  abbrev pub went_on : ℕ → ℕ → Receivers → List ℕ → Run → Went
  went_on room n r l w =
      went_after (2 * w.count - 1) w.text
      (going (room - length w.text) (tape_of (n + w.count) Kind (with_receiver line w.receiver r)) (drop (2 * w.count - 1) l))

  abbrev Goes : ℕ → ℕ → Receivers → ℕ → List ℕ → List ℕ → Type 0
  Goes room n r b bs rest =
      let l = b ∷ (laced (kind_of line) bs ++ rest) in
      going room (tape_of n (Body line) r) l ≡ went_on room n r l (running room line n (receiver_on line r) (b ∷ bs))

  module _ (n : ℕ) (r : Receivers) (b : ℕ) where
    abbrev s : Receiver
    s = (received (receiver_on line r) (b ∷ [])).receiver

    abbrev text : List ℕ
    text = heard_row n line (received (receiver_on line r) (b ∷ []))

    -- the first body and its kind's next are together what was gone over
    joined : (room : ℕ) (w : Run) (k : ℕ) (l : List ℕ) → 1 ≤ w.count
        → went_after 1 text (went_after 1 [] (went_on (room - length text) (n + 1) (with_receiver line s r) l w))
        ≡ went_on room n r (b ∷ k ∷ l) (run_after 1 text w)
    joined room w k l some =
        let c = w.count in
        let u = w.receiver in
        let m = room - length text - length w.text in
        let d = drop (2 * c - 1) l in
        let left : m ≡ room - length (text ++ w.text) = rw (length-append text w.text) (omega arith) in
        let more : n + 1 + c ≡ n + (1 + c) = omega arith in
        let far : 2 * (1 + c) - 1 ≡ suc (suc (2 * c - 1)) = omega arith in
        let g = going (room - length (text ++ w.text)) (tape_of (n + (1 + c)) Kind (with_receiver line u r)) (drop (2 * (1 + c) - 1) (b ∷ k ∷ l)) in
        let same =
        ap₂ (λ (a i : ℕ). going a (tape_of i Kind (with_receiver line u (with_receiver line s r))) d) left more
        ∙ ap₂ (λ (q : Receivers) (j : ℕ). going (room - length (text ++ w.text)) (tape_of (n + (1 + c)) Kind q) (drop j (b ∷ k ∷ l)))
        (with-receiver-with-receiver line s u r) (sym far) in
        ◌∙◌ {b = record { tape = g.tape; taken = 1 + (1 + (2 * c - 1 + g.taken)); text = text ++ (w.text ++ g.text) }}
        (ap (λ (q : Went). record { tape = q.tape; taken = 1 + (1 + (2 * c - 1 + q.taken)); text = text ++ (w.text ++ q.text) }) same)
        (ap₂ (λ (a : ℕ) (t : List ℕ). record { tape = g.tape; taken = a; text = t }) (omega arith) (sym (append_assoc text w.text g.text)))

    module _ (room : ℕ) (h : least_room ≤ room) where
      -- the first body
      first : (l : List ℕ)
          → going room (tape_of n (Body line) r) (b ∷ l)
          ≡ went_after 1 text (going (room - length text) (tape_of (n + 1) Kind (with_receiver line s r)) l)
      unfolding advance
      first l = going_step room (tape_of n (Body line) r) b l refl h

      -- no other body is heard
      goes_one : (bs rest : List ℕ) → running (room - length text) line (n + 1) s bs ≡ resting s
          → Goes room n r b bs rest
      goes_one bs rest none =
          first (laced (kind_of line) bs ++ rest)
          ∙ ap (λ (t : List ℕ). went_after 1 t
          (going (room - length t) (tape_of (n + 1) Kind (with_receiver line s r)) (laced (kind_of line) bs ++ rest)))
          (sym (append-nil text))
          ∙ ap (went_on room n r (b ∷ (laced (kind_of line) bs ++ rest)))
          (sym (running-step line room n (receiver_on line r) b bs h ∙ ap (run_after 1 text) none))

      goes-more : (c : ℕ) (bs rest : List ℕ) → least_room ≤ room - length text → n + 1 < most_records
          → Goes (room - length text) (n + 1) (with_receiver line s r) c bs rest
          → Goes room n r b (c ∷ bs) rest
      unfolding laced
      goes-more c bs rest more few others =
          let k = kind_of line in
          let l = c ∷ (laced k bs ++ rest) in
          let m = room - length text in
          first (k ∷ l)
          ∙ ap (went_after 1 text)
          (going-kind m (n + 1) (with_receiver line s r) k l more
          ∙ ap (went_after 1 []) (ap (λ (x : Next). going m (tape_of (n + 1) x (with_receiver line s r)) l) (body-next line (n + 1) few) ∙ others))
          ∙ ap (λ (x : Receiver). went_after 1 text
          (went_after 1 [] (went_on m (n + 1) (with_receiver line s r) l (running m line (n + 1) x (c ∷ bs)))))
          (on-with-receiver line s r)
          ∙ joined room (running m line (n + 1) s (c ∷ bs)) k l (running-some line m (n + 1) s c bs more)
          ∙ ap (went_on room n r (b ∷ k ∷ l)) (sym (running-step line room n (receiver_on line r) b (c ∷ bs) h))

  goes : (bs : List ℕ) (room n : ℕ) (r : Receivers) (b : ℕ) (rest : List ℕ) → least_room ≤ room → n + length (b ∷ bs) ≤ most_records
      → Goes room n r b bs rest
  unfolding running
  goes [] room n r b rest h few = goes_one n r b room h [] rest refl
  goes (c ∷ bs) room n r b rest h few =
      go (dec_le least_room (room - length (text n r b)))
      (goes bs (room - length (text n r b)) (n + 1) (with_receiver line (s n r b) r) c rest)
    where
      go : Dec (least_room ≤ room - length (text n r b))
          → (least_room ≤ room - length (text n r b) → n + 1 + length (c ∷ bs) ≤ most_records
          → Goes (room - length (text n r b)) (n + 1) (with_receiver line (s n r b) r) c bs rest)
          → Goes room n r b (c ∷ bs) rest
      go (yes more) others = goes-more n r b room h c bs rest more (omega arith) (others more (omega arith))
      go (no full) others =
          goes_one n r b room h (c ∷ bs) rest
          (running-full line (room - length (text n r b)) (n + 1) (s n r b) (c ∷ bs) (omega arith))

-- ---- what bodies leave

-- the count of those heard, and their text, have room
pub running-within : (line : Line) (bs : List ℕ) (room n : ℕ) (s : Receiver) → n + length bs ≤ most_records
    → let w = running room line n s bs in (w.count ≤ length bs) × (length w.text ≤ room)
unfolding running
running-within line [] room n s few = (omega arith, zero-le)
running-within line (b ∷ bs) room n s few =
    let said = received s (b ∷ []) in
    let text = heard_row n line said in
    let more = running (room - length text) line (n + 1) said.receiver bs in
    let r = running-within line bs (room - length text) (n + 1) said.receiver (omega arith) in
    cond-elim (λ (w : Run). (w.count ≤ length (b ∷ bs)) × (length w.text ≤ room)) (ltb room least_room) (λ full. (zero-le, zero-le))
    (λ fits. let roomy = ltb-false room least_room fits in
    (omega (arith, r.0), omega (arith, r.1, length-append text more.text, heard-row-within n line s (b ∷ []) (omega arith))))

pub running-good : (line : Line) (bs : List ℕ) (room n : ℕ) (s : Receiver) → bad_receiver s ≡ false
    → bad_receiver (running room line n s bs).receiver ≡ false
unfolding running
running-good line [] room n s good = good
running-good line (b ∷ bs) room n s good =
    cond-elim (λ (w : Run). bad_receiver w.receiver ≡ false) (ltb room least_room) (λ t. good)
    (λ f. running-good line bs (room - length (heard_row n line (received s (b ∷ [])))) (n + 1) (received s (b ∷ [])).receiver
    (stays-good s (b ∷ []) good))

-- the bodies that were gathered at a chunk's front
pub goes_on : (line : Line) (room n : ℕ) (r : Receivers) (chunk bodies : List ℕ) → least_room ≤ room → n < most_records
    → Gathered (kind_of line) (most_records - n) chunk bodies
    → going room (tape_of n (Body line) r) chunk ≡ went_on line room n r chunk (running room line n (receiver_on line r) bodies)
goes_on line room n r chunk [] h few gathered = absurd (let e = gathered.some in omega arith)
goes_on line room n r chunk (b ∷ bs) h few gathered =
    let w = running room line n (receiver_on line r) (b ∷ bs) in
    let m = 2 * length (b ∷ bs) - 1 in
    let split : chunk ≡ b ∷ (laced (kind_of line) bs ++ drop m chunk) =
    sym (take-append-drop m chunk) ∙ ap (λ (l : List ℕ). l ++ drop m chunk) gathered.front in
    subst⁻¹ (λ (l : List ℕ). going room (tape_of n (Body line) r) l ≡ went_on line room n r l w) split
    (goes line bs room n r b (drop m chunk) h (omega (arith, gathered.within)))
