-- The sums that a line's bytes give, counted as they come, are those over the FRAMEs that the tape's listing shows.
-- Assumes nothing.
use mathlib.Core.Path.{◌≡◌, refl, sym, ap, ap₂, ◌∙◌}
use mathlib.Core.Bool.{Bool, true, false, cond}
use mathlib.Core.List.{List, [], ◌∷◌, ◌++◌}
use Prim.Native.Nat.{ℕ, suc, ◌+◌}
use native.Mathlib.Nat.{add-zero, zero-add, add_assoc}
use native.Mathlib.Omega.{arith}
use lib.ListN.{length}
use Rattle.link_spec.specs.declared.station.Station.{Station}
use Rattle.link_spec.specs.Events.{Name, NONE, FRAME, CHECK, SHORT, LONG, PAIR, ADDR, happened}
use Rattle.link_spec.specs.Receiving.{Said, bad_receiver, received}
use Rattle.link_spec.specs.Hearing.{Told, note}
use Rattle.link_spec.proofs.Laws.Receiving.{stays-good, keeps-station}
use Rattle.tape_spec.specs.declared.tape.Line.{Line}
use Rattle.tape_spec.specs.declared.tape.Line.TheVariants.{Point, Addressed}
use Rattle.tape_spec.specs.declared.tape.Receivers.{Receivers}
use Rattle.tape_spec.specs.Rows.{carried}
use Rattle.tape_spec.specs.Whole.{Record, heard_on, Entry, entry, entry_of, entries, station_on, fresh_receivers, receiver_on, with_receiver}
use Rattle.tape_spec.specs.Frames.{bytes_on}
use Rattle.tape_spec.proofs.Laws.Frames.{told, told_of}
use Rattle.totals_spec.specs.declared.totals.Sums.{Sums}
use Rattle.totals_spec.specs.Whole.{is_frame, is_on, fronts_on, image_bytes, reserved_bytes, sum_over, sums_of, sums_on, nothing}
use Rattle.totals_spec.specs.Adding.{Account, account, with_bytes, with_frame, with_said, after_bytes}

-- what the FRAMEs show that a line's bytes tell
unfoldable pub fronts_told : List Told → List (List ℕ)
fronts_told [] = []
fronts_told (t ∷ ts) = cond (is_frame t.event) (t.content ∷ fronts_told ts) (fronts_told ts)

-- ---- one event

-- a FRAME's front before others, and no other event's
abbrev fronts_after : Name → List ℕ → List (List ℕ) → List (List ℕ)
fronts_after event content more = cond (is_frame event) (content ∷ more) more

note-fronts : (place : ℕ) (event : Name) (content : List ℕ) (ts : List Told)
    → fronts_told (note place event content ++ ts) ≡ fronts_after event content (fronts_told ts)
unfolding fronts_told note
note-fronts place NONE content ts = refl
note-fronts place FRAME content ts = refl
note-fronts place CHECK content ts = refl
note-fronts place SHORT content ts = refl
note-fronts place LONG content ts = refl
note-fronts place PAIR content ts = refl
note-fronts place ADDR content ts = refl

-- an entry on this line
entry-fronts : (line : Line) (n : ℕ) (event : Name) (content : List ℕ) (es : List Entry)
    → fronts_on line (cond (happened event) (entry n line event content ∷ []) [] ++ es) ≡ fronts_after event content (fronts_on line es)
unfolding fronts_on
entry-fronts line n NONE content es = refl
entry-fronts Point n FRAME content es = refl
entry-fronts Addressed n FRAME content es = refl
entry-fronts line n CHECK content es = refl
entry-fronts line n SHORT content es = refl
entry-fronts line n LONG content es = refl
entry-fronts line n PAIR content es = refl
entry-fronts line n ADDR content es = refl

-- and one on the other
other-fronts : (line other : Line) (n : ℕ) (event : Name) (content : List ℕ) (es : List Entry) → is_on line other ≡ false
    → fronts_on line (cond (happened event) (entry n other event content ∷ []) [] ++ es) ≡ fronts_on line es
unfolding fronts_on
other-fronts line other n NONE content es apart = refl
other-fronts line other n FRAME content es apart = rw apart
other-fronts line other n CHECK content es apart = refl
other-fronts line other n SHORT content es apart = refl
other-fronts line other n LONG content es apart = refl
other-fronts line other n PAIR content es apart = refl
other-fronts line other n ADDR content es apart = refl

-- ---- the FRAMEs of a listing on a line are those that the line's bytes tell

-- one record more of this line
same_line : (line : Line) (n p : ℕ) (said : Said) (es : List Entry) (ts : List Told) → fronts_on line es ≡ fronts_told ts
    → fronts_on line (entry_of n line said ++ es) ≡ fronts_told (told_of (p + 1) said ++ ts)
unfolding entry_of
same_line line n p said es ts rest =
    entry-fronts line n said.event (carried said) es
    ∙ ap (fronts_after said.event (carried said)) rest
    ∙ sym (note-fronts (p + 1) said.event (carried said) ts)

pub listed-told : (line : Line) (rs : List Record) (n p : ℕ) (r : Receivers)
    → fronts_on line (entries n r rs) ≡ fronts_told (told p (receiver_on line r) (bytes_on line rs))
unfolding entries entry_of bytes_on told fronts_on fronts_told
listed-told line [] n p r = refl
listed-told Point (heard_on Point b ∷ rs) n p r =
    let said = received r.point (b ∷ []) in
    same_line Point n p said _ _ (listed-told Point rs (n + 1) (p + 1) (with_receiver Point said.receiver r))
listed-told Point (heard_on Addressed b ∷ rs) n p r =
    let said = received r.addressed (b ∷ []) in
    let u = with_receiver Addressed said.receiver r in
    other-fronts Point Addressed n said.event (carried said) (entries (n + 1) u rs) refl ∙ listed-told Point rs (n + 1) p u
listed-told Addressed (heard_on Point b ∷ rs) n p r =
    let said = received r.point (b ∷ []) in
    let u = with_receiver Point said.receiver r in
    other-fronts Addressed Point n said.event (carried said) (entries (n + 1) u rs) refl ∙ listed-told Addressed rs (n + 1) p u
listed-told Addressed (heard_on Addressed b ∷ rs) n p r =
    let said = received r.addressed (b ∷ []) in
    same_line Addressed n p said _ _ (listed-told Addressed rs (n + 1) (p + 1) (with_receiver Addressed said.receiver r))

-- ---- the sums

-- with so many bytes more, and frames with these fronts
abbrev pub plus : Sums → Station → ℕ → List (List ℕ) → Sums
plus s station n fronts =
    sums_of (s.frames + length fronts) (s.heard + n) (s.inside + sum_over (image_bytes station) fronts)
    (s.reserved + sum_over (reserved_bytes station) fronts)

sums_same : {a b c d e f g h : ℕ} → a ≡ e → b ≡ f → c ≡ g → d ≡ h → sums_of a b c d ≡ sums_of e f g h
sums_same p q r s = λ i. sums_of (p i) (q i) (r i) (s i)

-- one byte more
plus-byte : (s : Sums) (station : Station) (n : ℕ) (event : Name) (content : List ℕ) (fronts : List (List ℕ))
    → plus (cond (is_frame event) (with_frame station content (with_bytes 1 s)) (with_bytes 1 s)) station n fronts
    ≡ plus s station (suc n) (fronts_after event content fronts)
unfolding sum_over
plus-byte s station n event content fronts = go (is_frame event)
  where
    one : s.heard + 1 + n ≡ s.heard + suc n
    one = omega arith

    go : (f : Bool)
        → plus (cond f (with_frame station content (with_bytes 1 s)) (with_bytes 1 s)) station n fronts
        ≡ plus s station (suc n) (cond f (content ∷ fronts) fronts)
    go true =
        sums_same (omega arith) one (add_assoc s.inside (image_bytes station content) (sum_over (image_bytes station) fronts))
        (add_assoc s.reserved (reserved_bytes station content) (sum_over (reserved_bytes station) fronts))
    go false = sums_same refl one refl refl

pub after-told : (bs : List ℕ) (p : ℕ) (x : Account) → bad_receiver x.receiver ≡ false
    → (after_bytes x bs).sums ≡ plus x.sums x.receiver.station (length bs) (fronts_told (told p x.receiver bs))
unfolding after_bytes told fronts_told sum_over
after-told [] p x good =
    sums_same (sym (add-zero x.sums.frames)) (sym (add-zero x.sums.heard)) (sym (add-zero x.sums.inside))
    (sym (add-zero x.sums.reserved))
after-told (b ∷ bs) p x good =
    let s = x.receiver in
    let said = received s (b ∷ []) in
    let y = account said.receiver (with_said s.station said (with_bytes 1 x.sums)) in
    let fronts = fronts_told (told (p + 1) said.receiver bs) in
    after-told bs (p + 1) y (stays-good s (b ∷ []) good)
    ∙ ap (λ (l : Station). plus y.sums l (length bs) fronts) (keeps-station s (b ∷ []) good)
    ∙ plus-byte x.sums s.station (length bs) said.event (carried said) fronts
    ∙ ap (plus x.sums s.station (suc (length bs)))
    (sym (note-fronts (p + 1) said.event (carried said) (told (p + 1) said.receiver bs)))

-- from a fresh receiver on they are those of the whole line
pub sums-are : (line : Line) (rs : List Record) → bad_receiver (receiver_on line fresh_receivers) ≡ false
    → (receiver_on line fresh_receivers).station ≡ station_on line
    → (after_bytes (account (receiver_on line fresh_receivers) nothing) (bytes_on line rs)).sums ≡ sums_on line rs
sums-are line rs good on =
    let fronts = fronts_on line (entries 0 fresh_receivers rs) in
    after-told (bytes_on line rs) 0 (account (receiver_on line fresh_receivers) nothing) good
    ∙ ap₂ (λ (l : Station) (f : List (List ℕ)). plus nothing l (length (bytes_on line rs)) f) on (sym (listed-told line rs 0 0 fresh_receivers))
    ∙ sums_same (zero-add (length fronts)) (zero-add (length (bytes_on line rs))) (zero-add (sum_over (image_bytes (station_on line)) fronts))
    (zero-add (sum_over (reserved_bytes (station_on line)) fronts))
