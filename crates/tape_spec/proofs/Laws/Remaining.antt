-- What is left of a tape has the same text, however much of it a call takes; and from the start it is the listing.
-- Assumes nothing.
use mathlib.Core.Path.{◌≡◌, refl, sym, ap, ◌∙◌}
use mathlib.Core.Bool.{Bool, true, false, cond, false≢true}
use mathlib.Core.List.{List, [], ◌∷◌, ◌++◌, append_assoc}
use Prim.Native.Nat.{ℕ, suc, ◌+◌}
use native.Mathlib.Nat.{add-zero}
use native.Mathlib.Omega.{arith}
use lib.Dec.{eqb}
use lib.ListN.{length, drop}
use Rattle.ground.proofs.Laws.Choice.{cond-elim}
use Rattle.link_spec.specs.Events.{happened}
use Rattle.link_spec.specs.Receiving.{Said, received}
use Rattle.tape_spec.specs.declared.tape.Line.{Line}
use Rattle.tape_spec.specs.declared.tape.Ending.{Ending}
use Rattle.tape_spec.specs.declared.tape.Ending.TheVariants.{Full as FULL}
use Rattle.tape_spec.specs.Rows.{heard_row, last_row}
use Rattle.tape_spec.proofs.Laws.Rows.{no_row}
use Rattle.tape_spec.specs.declared.tape.Next.{Next}
use Rattle.tape_spec.specs.declared.tape.Next.TheVariants.{Kind, Body, Bad, Full}
use Rattle.tape_spec.specs.declared.tape.Receivers.{Receivers}
use Rattle.tape_spec.specs.declared.tape.Tape.{Tape}
use Rattle.tape_spec.specs.Limits.{most_records}
use Rattle.tape_spec.specs.Whole.{known, unknown, kind, Parts, no_more, bodyless, before, parts, with_receiver, receiver_on, Entry, entry_of, entries, entry_rows, event_rows}
use Rattle.tape_spec.specs.Whole as whole
use Rattle.tape_spec.specs.Taping.{tape_of, awaited, after_kind, advance, advanced, quiet, is_over, Went, going, ending, last_row_of}
use Rattle.tape_spec.proofs.Laws.Taping.{going-elim}

-- the text that is to come, the last row with it
unfoldable pub remaining : Tape → List ℕ → List ℕ
remaining t [] = last_row_of t
remaining t (b ∷ bs) = (advanced t b).text ++ remaining (advanced t b).tape bs

-- ---- a call takes part of it

step-remains : (t : Tape) (b : ℕ) (l : List ℕ) (m : Went)
    → let s = advanced t b in
    remaining s.tape l ≡ m.text ++ remaining m.tape (drop m.taken l)
    → remaining t (b ∷ l) ≡ s.text ++ m.text ++ remaining m.tape (drop (1 + m.taken) (b ∷ l))
unfolding remaining
step-remains t b l m same =
    let text = (advanced t b).text in
    let next : suc m.taken ≡ 1 + m.taken = omega arith in
    ap (λ (x : List ℕ). text ++ x) same
    ∙ sym (append_assoc text m.text (remaining m.tape (drop m.taken l)))
    ∙ ap (λ (k : ℕ). text ++ m.text ++ remaining m.tape (drop k (b ∷ l))) next

pub going-remains : (chunk rest : List ℕ) (room : ℕ) (t : Tape)
    → let g = going room t chunk in
    remaining t (chunk ++ rest) ≡ g.text ++ remaining g.tape (drop g.taken (chunk ++ rest))
going-remains chunk rest room t =
    going-elim
    (λ (n : ℕ) (u : Tape) (l : List ℕ) (g : Went). remaining u (l ++ rest) ≡ g.text ++ remaining g.tape (drop g.taken (l ++ rest)))
    (λ n u l. refl) (λ n u b bs m more roomy same. step-remains u b (bs ++ rest) m same) chunk room t

-- after the last byte that is read only the last row is left
over-step : (next : Next) (t : Tape) (b : ℕ) → is_over next ≡ true → advance next t b ≡ quiet t
unfolding advance
over-step Kind t b e = absurd (false≢true e)
over-step (Body line) t b e = absurd (false≢true e)
over-step Bad t b e = refl
over-step Full t b e = refl

pub over-remains : (l : List ℕ) (t : Tape) → is_over t.next ≡ true → remaining t l ≡ last_row_of t
unfolding remaining
over-remains [] t over = refl
over-remains (b ∷ bs) t over = rw (over-step t.next t b over) (over-remains bs t over)

-- ---- from the start on it is the listing

-- the text of records, and the last row
abbrev text : ℕ → Receivers → Parts → List ℕ
text n r p = event_rows n r p.records ++ last_row p.ending (n + length p.records)

-- a record's row, and those of the others
entry-rows : (n : ℕ) (line : Line) (said : Said) (es : List Entry)
    → heard_row n line said ++ entry_rows es ≡ entry_rows (entry_of n line said ++ es)
unfolding entry_of entry_rows
entry-rows n line said es =
    cond-elim (λ (x : List Entry). heard_row n line said ++ entry_rows es ≡ entry_rows (x ++ es)) (happened said.event) (λ t. refl)
    (λ f. ap (λ (l : List ℕ). l ++ entry_rows es) (no_row n line said f))

-- no record more
text-none : (n : ℕ) (r : Receivers) (next : Next) → last_row_of (tape_of n next r) ≡ text n r (no_more (ending next))
unfolding entries entry_rows
text-none n r next = ap (last_row (ending next)) (sym (add-zero n))

pub kind-bodyless : (n k : ℕ) → ending (after_kind n k) ≡ cond (eqb n most_records) FULL (bodyless (kind k))
unfolding after_kind
kind-bodyless n k = go (eqb n most_records) (kind k)
  where
    go : (e : Bool) (x : whole.Kind) → ending (cond e Full (awaited x)) ≡ cond e FULL (bodyless x)
    go true x = refl
    go false (known line) = refl
    go false unknown = refl

-- a record before others
record-remains : (n : ℕ) (r : Receivers) (line : Line) (b : ℕ) (bs : List ℕ)
    → let u = with_receiver line (received (receiver_on line r) (b ∷ [])).receiver r in
    remaining (tape_of (n + 1) Kind u) bs ≡ text (n + 1) u (parts (n + 1) bs)
    → remaining (tape_of n (Body line) r) (b ∷ bs) ≡ text n r (before (known line) b (parts (n + 1) bs))
unfolding remaining advance entries
record-remains n r line b bs same =
    let said = received (receiver_on line r) (b ∷ []) in
    let u = with_receiver line said.receiver r in
    let p = parts (n + 1) bs in
    let far : n + 1 + length p.records ≡ n + suc (length p.records) = omega arith in
    ap (λ (x : List ℕ). heard_row n line said ++ x) (same ∙ ap (λ (k : ℕ). event_rows (n + 1) u p.records ++ last_row p.ending k) far)
    ∙ sym (append_assoc (heard_row n line said) (event_rows (n + 1) u p.records) (last_row p.ending (n + suc (length p.records))))
    ∙ ap (λ (l : List ℕ). l ++ last_row p.ending (n + suc (length p.records)))
    (entry-rows n line said (entries (n + 1) u p.records))

-- a kind and a byte after it
kind-remains : (n : ℕ) (r : Receivers) (k b : ℕ) (bs : List ℕ)
    → ((u : Receivers) → remaining (tape_of (n + 1) Kind u) bs ≡ text (n + 1) u (parts (n + 1) bs))
    → remaining (tape_of n (after_kind n k) r) (b ∷ bs) ≡ text n r (parts n (k ∷ b ∷ bs))
unfolding after_kind parts
kind-remains n r k b bs rest = go (eqb n most_records) (kind k)
  where
    go : (e : Bool) (x : whole.Kind)
        → remaining (tape_of n (cond e Full (awaited x)) r) (b ∷ bs) ≡ text n r (cond e (no_more FULL) (before x b (parts (n + 1) bs)))
    go true x = over-remains (b ∷ bs) (tape_of n Full r) refl ∙ text-none n r Full
    go false (known line) = record-remains n r line b bs (rest (with_receiver line (received (receiver_on line r) (b ∷ [])).receiver r))
    go false unknown = over-remains (b ∷ bs) (tape_of n Bad r) refl ∙ text-none n r Bad

pub remaining-listed : (tape : List ℕ) (n : ℕ) (r : Receivers) → remaining (tape_of n Kind r) tape ≡ text n r (parts n tape)
unfolding remaining advance parts
remaining-listed [] n r = text-none n r Kind
remaining-listed (k ∷ []) n r = text-none n r (after_kind n k) ∙ ap (λ (e : Ending). text n r (no_more e)) (kind-bodyless n k)
remaining-listed (k ∷ b ∷ bs) n r = kind-remains n r k b bs (remaining-listed bs (n + 1))
