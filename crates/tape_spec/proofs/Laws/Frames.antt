-- The FRAME rows of a listing are exactly those of the frames whose complete wire image stands in what was heard on their line.
-- Assumes nothing.
use mathlib.Core.Path.{◌≡◌, refl, sym, ap, subst⁻¹, ◌∙◌}
use mathlib.Core.Logic.{⊎_elim}
use mathlib.Core.Bool.{false, true≢false}
use mathlib.Core.List.{List, [], ◌∷◌, ◌++◌, append_assoc}
use mathlib.Core.List.Memᴰ
use mathlib.Core.List.{Memᴰ}
use Prim.Native.Nat.{ℕ, ◌+◌, ◌≤◌}
use native.Mathlib.Omega.{arith}
use lib.ListN.{length, drop, length-append}
use Rattle.ground.proofs.Laws.Choice.{cond-elim}
use Rattle.ground.proofs.Laws.Lists.{drop-on, drop-none}
use Rattle.link_spec.specs.declared.receiver.Receiver.{Receiver}
use Rattle.link_spec.specs.Events.{Name, FRAME, happened}
use Rattle.link_spec.specs.Receiving.{Said, bad_receiver, received}
use Rattle.link_spec.specs.Hearing.{Told, told_at, note, IsFresh, Hearing, over}
use Rattle.link_spec.specs.Listing.{Lists}
use Rattle.link_spec.proofs.Laws.Address.{no-station-is}
use Rattle.link_spec.proofs.Laws.Receiving.{stays-good}
use Rattle.link_spec.proofs.Laws.Bytes.{note-some, note-none, hearing-byte}
use Rattle.link_spec.proofs.Laws.Fresh.{fresh-point, fresh-station, fresh-good}
use Rattle.link_spec.proofs.Laws.Demand.{hearing-lists}
use Rattle.tape_spec.specs.declared.tape.Line.{Line}
use Rattle.tape_spec.specs.declared.tape.Line.TheVariants.{Point, Addressed}
use Rattle.tape_spec.specs.Rows.{carried}
use Rattle.tape_spec.specs.declared.tape.Receivers.{Receivers}
use Rattle.tape_spec.specs.Whole.{Record, heard_on, Entry, entry, entry_of, entries, station_on, fresh_receivers, receiver_on, with_receiver}
use Rattle.tape_spec.specs.Frames.{byte_on, bytes_on, HasByte, NumbersRise, Shows}

-- ---- numbers rise

rise-sooner : {least more : ℕ} (es : List Entry) → least ≤ more → NumbersRise more es → NumbersRise least es
rise-sooner [] h r = tt
rise-sooner (e ∷ es) h r = (omega (arith, r.0), r.1)

rise-entries : (rs : List Record) (n : ℕ) (r : Receivers) → NumbersRise n (entries n r rs)
unfolding entries entry_of
rise-entries [] n r = tt
rise-entries (heard_on line b ∷ rs) n r =
    let said = received (receiver_on line r) (b ∷ []) in
    let u = with_receiver line said.receiver r in
    let rest = rise-entries rs (n + 1) u in
    cond-elim (λ (x : List Entry). NumbersRise n (x ++ entries (n + 1) u rs)) (happened said.event) (λ t. (omega arith, rest))
    (λ f. rise-sooner (entries (n + 1) u rs) (omega arith) rest)

-- ---- a hearing with one call for each byte

-- what a call tells whose last byte has this place
abbrev pub told_of : ℕ → Said → List Told
told_of place said = note place said.event (carried said)

-- what the bytes after a place tell that are handed over one by one
unfoldable pub told : ℕ → Receiver → List ℕ → List Told
told p s [] = []
told p s (b ∷ bs) =
    let said = received s (b ∷ []) in
    told_of (p + 1) said ++ told (p + 1) said.receiver bs

hears : (stream rest : List ℕ) (p : ℕ) (s : Receiver) → bad_receiver s ≡ false → drop p stream ≡ rest → Hearing stream s p (told p s rest)
unfolding told
hears stream [] p s good left = over {before = p} (drop-none stream p left)
hears stream (b ∷ bs) p s good left =
    let next = (received s (b ∷ [])).receiver in
    hearing-byte stream b bs p s (told (p + 1) next bs) good left
    (hears stream bs (p + 1) next (stays-good s (b ∷ []) good) (drop-on stream p 1 left))

fresh_on : (line : Line) → IsFresh (station_on line) (receiver_on line fresh_receivers)
fresh_on Point = fresh-point
fresh_on Addressed = fresh-station 0x00 (λ none. true≢false ((no-station-is 0x00).1 none))

pub told-lists : (line : Line) (stream : List ℕ) → Lists (station_on line) stream (told 0 (receiver_on line fresh_receivers) stream)
told-lists line stream =
    let f = fresh_on line in
    hearing-lists f (hears stream stream 0 (receiver_on line fresh_receivers) (fresh-good f) refl)

-- ---- the FRAME entries of a line are the FRAMEs that its bytes tell

module _ (records : List Record) (line : Line) where
  -- before these records stand n others, and among them p of this line
  record After (n p : ℕ) (rs : List Record) : Type 0 where
    done : List Record
    split : records ≡ done ++ rs
    numbered : n ≡ length done
    placed : p ≡ length (bytes_on line done)

  after-has : {n p b : ℕ} {rs : List Record} → After n p (heard_on line b ∷ rs) → HasByte records n line (p + 1)
  after-has {b} {rs} h =
      record { before = h.done; byte = b; after = rs; split = h.split; numbered = h.numbered; placed = ap (◌+ 1) h.placed }

  length-bytes : (done : List Record) (x : Record)
      → length (bytes_on line (done ++ (x ∷ []))) ≡ length (bytes_on line done) + length (byte_on line x)
  unfolding bytes_on
  length-bytes [] x = omega (arith, length-append (byte_on line x) [])
  length-bytes (d ∷ done) x =
      let d-bytes = byte_on line d in
      omega (arith, length-append d-bytes (bytes_on line (done ++ (x ∷ []))), length-append d-bytes (bytes_on line done), length-bytes done x)

  after_next : {n p : ℕ} {x : Record} {rs : List Record} (q : ℕ) → q ≡ p + length (byte_on line x) → After n p (x ∷ rs)
      → After (n + 1) q rs
  after_next {x} {rs} q e h =
      record {
        done = h.done ++ (x ∷ []);
        split = h.split ∙ sym (append_assoc h.done (x ∷ []) rs);
        numbered = omega (arith, length-append h.done (x ∷ []));
        placed = omega (arith, length-bytes h.done x);
      }

  module _ (front : List ℕ) where
    -- a FRAME with this content is among the entries of this line exactly where it is told, at the same record
    record Matches (es : List Entry) (ts : List Told) : Type 0 where
      each : (place : ℕ) → Memᴰ (told_at place FRAME front) ts
          → (number : ℕ) × HasByte records number line place × Memᴰ (entry number line FRAME front) es
      only : (number : ℕ) → Memᴰ (entry number line FRAME front) es
          → (place : ℕ) × HasByte records number line place × Memᴰ (told_at place FRAME front) ts

    match_none : Matches [] []
    match_none = record { each = λ place m. absurd (Memᴰ.not-nil m); only = λ number m. absurd (Memᴰ.not-nil m) }

    -- one more of each, of the same record
    match-more : {es : List Entry} {ts : List Told} (n p : ℕ) (event : Name) (content : List ℕ) → HasByte records n line (p + 1)
        → Matches es ts → Matches (entry n line event content ∷ es) (told_at (p + 1) event content ∷ ts)
    match-more n p event content here rest =
        record {
          each = λ place m. ⊎_elim
              (λ e. (
                n,
                subst⁻¹ (HasByte records n line) (ap (λ (t : Told). t.place) e) here,
                Memᴰ.head (ap (λ (t : Told). entry n line t.event t.content) e),
              ))
              (λ h. let x = rest.each place h in (x.0, x.1, Memᴰ.tail x.2))
              (Memᴰ.cases_cons m);
          only = λ number m. ⊎_elim
              (λ e. (
                p + 1,
                subst⁻¹ (λ (k : ℕ). HasByte records k line (p + 1)) (ap (λ (x : Entry). x.number) e) here,
                Memᴰ.head (ap (λ (x : Entry). told_at (p + 1) x.event x.content) e),
              ))
              (λ h. let x = rest.only number h in (x.0, x.1, Memᴰ.tail x.2))
              (Memᴰ.cases_cons m);
        }

    -- one more record of this line
    match-same : {es : List Entry} {ts : List Told} (n p : ℕ) (said : Said) → HasByte records n line (p + 1) → Matches es ts
        → Matches (entry_of n line said ++ es) (told_of (p + 1) said ++ ts)
    unfolding entry_of
    match-same {es} {ts} n p said here rest =
        cond-elim (λ (x : List Entry). Matches (x ++ es) (told_of (p + 1) said ++ ts)) (happened said.event)
        (λ t. rw (note-some (p + 1) said.event (carried said) t) (match-more n p said.event (carried said) here rest))
        (λ f. rw (note-none (p + 1) said.event (carried said) f) rest)

    -- one more of the other line
    match-other : {es : List Entry} {ts : List Told} (n : ℕ) (other : Line) (said : Said) → (line ≡ other → ⊥) → Matches es ts
        → Matches (entry_of n other said ++ es) ts
    unfolding entry_of
    match-other {es} {ts} n other said apart rest =
        cond-elim (λ (x : List Entry). Matches (x ++ es) ts) (happened said.event)
        (λ t. record {
          each = λ place m. let x = rest.each place m in (x.0, x.1, Memᴰ.tail x.2);
          only = λ number m. ⊎_elim (λ e. absurd (apart (ap (λ (x : Entry). x.line) e))) (rest.only number) (Memᴰ.cases_cons m);
        })
        (λ f. rest)

apart : Point ≡ Addressed → ⊥
apart e = let z : ◌≡◌ {A = ℕ} 0 1 = cc in omega arith

module _ (records : List Record) (front : List ℕ) where
  matches : (line : Line) (rs : List Record) (n p : ℕ) (r : Receivers) → After records line n p rs
      → Matches records line front (entries n r rs) (told p (receiver_on line r) (bytes_on line rs))
  unfolding entries bytes_on told
  matches line [] n p r h = match_none records line front
  matches Point (heard_on Point b ∷ rs) n p r h =
      let said = received r.point (b ∷ []) in
      match-same records Point front n p said (after-has records Point h)
      (matches Point rs (n + 1) (p + 1) (with_receiver Point said.receiver r) (after_next records Point (p + 1) (omega arith) h))
  matches Point (heard_on Addressed b ∷ rs) n p r h =
      let said = received r.addressed (b ∷ []) in
      match-other records Point front n Addressed said apart
      (matches Point rs (n + 1) p (with_receiver Addressed said.receiver r) (after_next records Point p (omega arith) h))
  matches Addressed (heard_on Point b ∷ rs) n p r h =
      let said = received r.point (b ∷ []) in
      match-other records Addressed front n Point said (λ e. apart (sym e))
      (matches Addressed rs (n + 1) p (with_receiver Point said.receiver r) (after_next records Addressed p (omega arith) h))
  matches Addressed (heard_on Addressed b ∷ rs) n p r h =
      let said = received r.addressed (b ∷ []) in
      match-same records Addressed front n p said (after-has records Addressed h)
      (matches Addressed rs (n + 1) (p + 1) (with_receiver Addressed said.receiver r) (after_next records Addressed (p + 1) (omega arith) h))

-- ---- demand 3

pub frames-shown : (records : List Record) → Shows records (entries 0 fresh_receivers records)
unfolding bytes_on
frames-shown records =
    let same : (line : Line) (front : List ℕ)
    → Matches records line front (entries 0 fresh_receivers records) (told 0 (receiver_on line fresh_receivers) (bytes_on line records)) =
    λ line front. matches records front line records 0 0 fresh_receivers
    (record { done = []; split = refl; numbered = refl; placed = refl }) in
    record {
      rise = rise-entries records 0 fresh_receivers;
      each = λ line place front stands. (same line front).each place ((told-lists line (bytes_on line records)).each place front stands);
      only = λ number line front m. let x = (same line front).only number m in
          (x.0, x.1, (told-lists line (bytes_on line records)).only x.0 front x.2);
    }
