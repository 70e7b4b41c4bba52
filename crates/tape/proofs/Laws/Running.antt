-- Bodies in a row on one line: how they are gathered, and how the receiver hears several in one call.
-- Assumes nothing.
use mathlib.Core.Path.{◌≡◌, refl, sym, ap, ap₂, subst⁻¹, ◌∙◌}
use mathlib.Core.Bool.{Bool, true, false}
use mathlib.Core.List.{List, [], ◌∷◌, ◌++◌, append_assoc}
use Prim.Native.Nat.{ℕ, zero, suc, ◌+◌, ◌*◌, ◌-◌, ◌≤◌, ◌<◌}
use native.Mathlib.Nat.{add-zero}
use native.Mathlib.Numerals.{add-one}
use native.Mathlib.Omega.{arith}
use borrow.Author.Tests.{le-ltb, lt-ltb}
use lib.ListN.{length, take, drop, set, get_or}
use lib.Seq.{take-suc, take-suc-set, length-take-le}
use Rattle.link_spec.specs.declared.receiver.Receiver.{Receiver}
use Rattle.link_spec.specs.Events.{happened}
use Rattle.link_spec.specs.Receiving.{Said, bad_receiver, received}
use Rattle.link_spec.proofs.Laws.Receiving.{received-takes, stays-good, empty-piece, takes_one}
use Rattle.link_spec.proofs.Laws.Bytes.{later, received-first, received-later}
use Rattle.tape_spec.specs.declared.tape.Line.{Line}
use Rattle.tape_spec.specs.Limits.{least_room}
use Rattle.tape_spec.specs.Rows.{heard_row}
use Rattle.tape_spec.proofs.Laws.Rows.{no_row}
use Rattle.tape.specs.Running.{laced, linked, Gathered, Run, resting, running}

-- ---- gathering

laced-more : (kind b : ℕ) (bs : List ℕ) → laced kind (bs ++ (b ∷ [])) ≡ laced kind bs ++ (kind ∷ b ∷ [])
unfolding laced
laced-more kind b [] = refl
laced-more kind b (a ∷ rest) = ap (λ (l : List ℕ). kind ∷ a ∷ l) (laced-more kind b rest)

linked-more : (kind b : ℕ) (bs : List ℕ) → 1 ≤ length bs → linked kind (bs ++ (b ∷ [])) ≡ linked kind bs ++ (kind ∷ b ∷ [])
linked-more kind b [] some = absurd (omega arith)
linked-more kind b (a ∷ rest) some = ap (λ (l : List ℕ). a ∷ l) (laced-more kind b rest)

-- the first body
pub gather-first : (kind : ℕ) (chunk piece : List ℕ) → 0 < length chunk → 0 < length piece
    → take 1 chunk ≡ linked kind (take 1 (set piece 0 (get_or chunk 0 0)))
unfolding laced
gather-first kind chunk piece some fits =
    take-suc chunk 0 0 some ∙ ap (linked kind) (sym (take-suc-set piece 0 (get_or chunk 0 0) fits))

-- one record more
pub gather-next : (kind : ℕ) (chunk piece : List ℕ) (count : ℕ) → 1 ≤ count → count < length piece → 2 * count < length chunk
    → get_or chunk (2 * count - 1) 0 ≡ kind
    → take (2 * count - 1) chunk ≡ linked kind (take count piece)
    → take (2 * (count + 1) - 1) chunk ≡ linked kind (take (count + 1) (set piece count (get_or chunk (2 * count) 0)))
gather-next kind chunk piece count some fits more same front =
    let n = 2 * count - 1 in
    let b = get_or chunk (2 * count) 0 in
    let two : 2 * (count + 1) - 1 ≡ suc (suc n) = omega arith in
    let one : 2 * count ≡ suc n = omega arith in
    let next : count + 1 ≡ suc count = omega arith in
    ap (λ (k : ℕ). take k chunk) two
    ∙ take-suc chunk (suc n) 0 (omega arith)
    ∙ ap₂ (λ (x y : List ℕ). x ++ y) (take-suc chunk n 0 (omega arith)) (ap (λ (k : ℕ). get_or chunk k 0 ∷ []) (sym one))
    ∙ append_assoc (take n chunk) (get_or chunk n 0 ∷ []) (b ∷ [])
    ∙ ap₂ (λ (x : List ℕ) (k : ℕ). x ++ (k ∷ b ∷ [])) front same
    ∙ sym (linked-more kind b (take count piece) (rw (length-take-le count piece (omega arith)) some))
    ∙ ap (linked kind) (sym (take-suc-set piece count b fits) ∙ ap (λ (k : ℕ). take k (set piece count b)) (sym next))

pub gathered : (kind most : ℕ) (chunk piece : List ℕ) (count : ℕ) → 1 ≤ count → count ≤ most → most ≤ length piece
    → take (2 * count - 1) chunk ≡ linked kind (take count piece)
    → (count ≤ length piece) × Gathered kind most chunk (take count piece)
gathered kind most chunk piece count some few fits front =
    let n = length-take-le count piece (omega arith) in
    (omega arith, record { some = rw n some; within = rw n few; front = rw n front })

-- ---- hearing

-- after some bodies with their text
abbrev pub run_after : ℕ → List ℕ → Run → Run
run_after count text w = record { receiver = w.receiver; count = count + w.count; text = text ++ w.text }

none-quiet : (s : Receiver) → bad_receiver s ≡ false → (bs : List ℕ) → (received s bs).taken ≡ 0 → happened (received s bs).event ≡ false
none-quiet s good [] e = ap happened (empty-piece s).1
none-quiet s good (b ∷ bs) e = absurd (let t = (received-takes s (b ∷ bs) good).some (omega arith) in omega arith)

module _ (line : Line) where
  -- the text of a call that began after n records: its event is at the last byte taken
  abbrev pub call_text : ℕ → Said → List ℕ
  call_text n said = heard_row (n + (said.taken - 1)) line said

  -- one body, where there is room
  pub running-step : (room n : ℕ) (s : Receiver) (b : ℕ) (bs : List ℕ) → least_room ≤ room
      → let said = received s (b ∷ []) in let text = heard_row n line said in
      running room line n s (b ∷ bs) ≡ run_after 1 text (running (room - length text) line (n + 1) said.receiver bs)
  unfolding running
  running-step room n s b bs h = rw (le-ltb room least_room h)

  -- and none where there is not
  pub running-full : (room n : ℕ) (s : Receiver) (bs : List ℕ) → room < least_room → running room line n s bs ≡ resting s
  unfolding running
  running-full room n s [] h = refl
  running-full room n s (b ∷ bs) h = rw (lt-ltb room least_room h)

  -- what a call on all the bodies that are left says of them
  unfoldable pub Hears : ℕ → ℕ → Receiver → List ℕ → Said → Type 0
  Hears room n s bodies said =
      running room line n s bodies
      ≡ run_after said.taken (call_text n said)
      (running (room - length (call_text n said)) line (n + said.taken) said.receiver (drop said.taken bodies))

  -- an event at the first body
  hears-first : (room n : ℕ) (s : Receiver) (b : ℕ) (bs : List ℕ) → least_room ≤ room → (received s (b ∷ [])).taken ≡ 1
      → Hears room n s (b ∷ bs) (received s (b ∷ []))
  unfolding Hears
  hears-first room n s b bs h one = rw (one, add-zero n) (running-step room n s b bs h)

  -- the number of its record does not depend on where the call began
  same_text : (n : ℕ) (said : Said) → (said.taken ≡ 0 → happened said.event ≡ false) → call_text n (later said) ≡ call_text (n + 1) said
  same_text n said some = go said.taken refl
    where
      go : (k : ℕ) → said.taken ≡ k → call_text n (later said) ≡ call_text (n + 1) said
      go zero e =
          no_row (n + (said.taken + 1 - 1)) line said (some e)
          ∙ sym (no_row (n + 1 + (said.taken - 1)) line said (some e))
      go (suc k) e = ap (λ (i : ℕ). heard_row i line said) (omega arith)

  -- none there, and the others are heard after it
  hears-later : (room n : ℕ) (s : Receiver) (b : ℕ) (bs : List ℕ) (said : Said) → least_room ≤ room
      → happened (received s (b ∷ [])).event ≡ false
      → (said.taken ≡ 0 → happened said.event ≡ false)
      → Hears room (n + 1) (received s (b ∷ [])).receiver bs said
      → Hears room n s (b ∷ bs) (later said)
  unfolding Hears
  hears-later room n s b bs said h quiet some rest =
      let one = received s (b ∷ []) in
      let k = said.taken in
      let all : room - 0 ≡ room = omega arith in
      let m = running (room - length (call_text (n + 1) said)) line (n + 1 + k) said.receiver (drop k bs) in
      running-step room n s b bs h
      ∙ ap (λ (t : List ℕ). run_after 1 t (running (room - length t) line (n + 1) one.receiver bs))
      (no_row n line one quiet)
      ∙ ap (run_after 1 []) (ap (λ (r : ℕ). running r line (n + 1) one.receiver bs) all ∙ rest)
      ∙ ap (λ (c : ℕ). record { receiver = m.receiver; count = c; text = call_text (n + 1) said ++ m.text }) (omega arith)
      ∙ ap₂
      (λ (t : List ℕ) (i : ℕ). run_after (k + 1) t (running (room - length t) line i said.receiver (drop k bs)))
      (sym (same_text n said some)) (omega arith)
      ∙ ap (λ (l : List ℕ). run_after (k + 1) (call_text n (later said))
      (running (room - length (call_text n (later said))) line (n + (k + 1)) said.receiver l))
      (ap (λ (j : ℕ). drop j (b ∷ bs)) (sym (add-one k)))

  -- no body left
  hears-none : (room n : ℕ) (s : Receiver) → Hears room n s [] (received s [])
  unfolding Hears running
  hears-none room n s =
      let e = empty-piece s in
      let said = received s [] in
      rw (no_row (n + (said.taken - 1)) line said (ap happened e.1), e.2, e.0)

  hears-more : (room n : ℕ) (s : Receiver) (b : ℕ) (bs : List ℕ) → bad_receiver s ≡ false → least_room ≤ room
      → Hears room (n + 1) (received s (b ∷ [])).receiver bs (received (received s (b ∷ [])).receiver bs)
      → Hears room n s (b ∷ bs) (received s (b ∷ bs))
  hears-more room n s b bs good h rest = go (happened (received s (b ∷ [])).event) refl
    where
      go : (e : Bool) → happened (received s (b ∷ [])).event ≡ e → Hears room n s (b ∷ bs) (received s (b ∷ bs))
      go true e = subst⁻¹ (Hears room n s (b ∷ bs)) (received-first s good b bs e) (hears-first room n s b bs h (takes_one s good b))
      go false e =
          subst⁻¹ (Hears room n s (b ∷ bs)) (received-later s good b bs e)
          (hears-later room n s b bs _ h e (none-quiet _ (stays-good s (b ∷ []) good) bs) rest)

  pub running-piece : (bs : List ℕ) (room n : ℕ) (s : Receiver) → bad_receiver s ≡ false → least_room ≤ room → Hears room n s bs (received s bs)
  unfolding Hears
  running-piece [] room n s good h = hears-none room n s
  running-piece (b ∷ bs) room n s good h =
      hears-more room n s b bs good h (running-piece bs room (n + 1) (received s (b ∷ [])).receiver (stays-good s (b ∷ []) good) h)
