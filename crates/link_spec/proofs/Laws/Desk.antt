-- The desk's half of demand 3: inside a frame the bytes since its start are the stuffing of the content so far, so a FRAME is told only
-- where a whole image stands.
-- Assumes nothing.
use mathlib.Core.Path.{◌≡◌, refl, sym, ap, ap₂, subst, ◌∙◌}
use mathlib.Core.Bool.{true, false}
use mathlib.Core.List.Memᴰ
use mathlib.Core.List.{List, [], ◌∷◌, ◌++◌, append_assoc, append-nil, Memᴰ}
use mathlib.Core.Logic.{⊎_elim}
use Prim.Native.Nat.{ℕ, ◌+◌, ◌-◌, ◌≤◌, ◌<◌, zero-le}
use native.Mathlib.Omega.{arith}
use lib.ListN.{length, take, length-append}
use Rattle.std.specs.Prelude.{Some}
use Rattle.ground.proofs.Laws.Choice.{cond-elim, no-case}
use Rattle.checks.specs.declared.kind.Check.{Check}
use Rattle.checks.specs.Check.{with_check, front}
use Rattle.checks.proofs.Laws.Right.{right-with_check}
use Rattle.wire_spec.specs.Limits.{most_content}
use Rattle.wire_spec.specs.Stuffing.{special, stuffed, stuffing}
use Rattle.wire_spec.specs.Image.{start, stop, image}
use Rattle.wire_spec.proofs.Laws.Stuffing.{stuffed-other, stuffed-partner, stuffing-append}
use Rattle.link_spec.specs.declared.event.Verdict.{Verdict}
use Rattle.link_spec.specs.declared.station.Station.{Station}
use Rattle.link_spec.specs.declared.station.Station.TheVariants.{Point, Addressed}
use Rattle.link_spec.specs.declared.receiver.Phase.{Phase}
use Rattle.link_spec.specs.declared.receiver.Phase.TheVariants.{Outside, Inside, Pending}
use Rattle.link_spec.specs.declared.receiver.Turn.{Turn}
use Rattle.link_spec.specs.Limits.{least_content}
use Rattle.link_spec.specs.Station.{check_on, checked, has_address, AddressTaken}
use Rattle.link_spec.specs.Events.{Name, FRAME, LONG, PAIR, ADDR, named, happened, verdict}
use Rattle.link_spec.specs.Rules.{Address, first, Later, on_point, after_first, ByRule, ignored, begins, stops, address, no_address, waits, plain, pair, no_pair, long_plain, long_pair}
use Rattle.link_spec.specs.Receiving.{outcome}
use Rattle.link_spec.specs.Hearing.{Told, told_at, note}
use Rattle.link_spec.specs.Listing.{Stands}
use Rattle.link_spec.proofs.Laws.Address.{takes-plain}
use Rattle.link_spec.proofs.Laws.Turning.{turn-rule, address_room}
use Rattle.link_spec.proofs.Laws.Events.{by-stop}
use Rattle.link_spec.proofs.Laws.View.{View, view, turns, next, noted}
use Rattle.link_spec.proofs.Laws.Cuts.{tell}

-- ---- the bytes since the frame's start

-- the wire of a frame so far: its start and the stuffing of the content so far
abbrev wire : List ℕ → List ℕ
wire k = start ∷ stuffing k

-- what was heard ends in these bytes, and they hold a content that may be a frame's
pub record Ends (station : Station) (heard : List ℕ) (kept bytes : List ℕ) : Type 0 where
  pub before : List ℕ
  pub split : heard ≡ before ++ bytes
  pub most : length kept ≤ most_content
  pub taken : AddressTaken station kept

abbrev pub Trace : Station → List ℕ → Phase → List ℕ → Type 0
Trace station heard Outside kept = Unit {0}
Trace station heard Inside kept = Ends station heard kept (wire kept)
Trace station heard Pending kept = Ends station heard kept (wire kept ++ (0xFF ∷ [])) × Later station (length kept)

-- one byte more
ends_more : {station : Station} {heard k bytes : List ℕ} (l more : List ℕ) (b : ℕ)
    → Ends station heard k bytes → bytes ++ (b ∷ []) ≡ more → length l ≤ most_content → AddressTaken station l
    → Ends station (heard ++ (b ∷ [])) l more
ends_more {bytes} l more b e w m t =
    record {
      before = e.before;
      split = ap (λ (x : List ℕ). x ++ (b ∷ [])) e.split ∙ append_assoc e.before bytes (b ∷ []) ∙ ap (λ (x : List ℕ). e.before ++ x) w;
      most = m;
      taken = t;
    }

taken_none : (station : Station) → AddressTaken station []
taken_none Point = tt
taken_none (Addressed own) = tt

-- the address is no byte that stuffing changes
address_plain : {station : Station} {count b : ℕ} → has_address station ≡ true → Address station count b true → special b ≡ false
address_plain {b} good (first {own} f g t) = takes-plain own b good t

-- a content begins with an address that is taken, and goes on with it
taken-first : {station : Station} (k : List ℕ) (b : ℕ) → Address station (length k) b true → AddressTaken station (k ++ (b ∷ []))
taken-first [] b (first f g t) = t
taken-first (_ ∷ _) b a = elim a [ ]

taken-later : {station : Station} (k : List ℕ) (b : ℕ) → AddressTaken station k → Later station (length k) → AddressTaken station (k ++ (b ∷ []))
taken-later [] b taken on_point = tt
taken-later (a ∷ k) b taken on_point = tt
taken-later (a ∷ k) b taken after_first = taken

wire-more : (k : List ℕ) (b : ℕ) → wire k ++ stuffed b ≡ wire (k ++ (b ∷ []))
unfolding stuffing
wire-more k b =
    ap (λ (l : List ℕ). start ∷ l) (sym (stuffing-append k (b ∷ []) ∙ ap (λ (l : List ℕ). stuffing k ++ l) (append-nil (stuffed b))))

module _ (station : Station) (good : has_address station ≡ true) (heard : List ℕ) where
  -- a byte that stands for itself
  trace-plain : (k : List ℕ) (b : ℕ) → special b ≡ false → length k < most_content → AddressTaken station (k ++ (b ∷ [])) → Ends station heard k (wire k)
      → let l = k ++ (b ∷ []) in
      Ends station (heard ++ (b ∷ [])) l (wire l)
  trace-plain k b other room taken e =
      let l = k ++ (b ∷ []) in
      ends_more l (wire l) b e (rw (stuffed-other b other) at (wire-more k b)) (simp length-append (omega arith)) taken

  trace-next : {phase : Phase} (k : List ℕ) (b : ℕ) {t : Turn} → ByRule station (length k) b phase t → Trace station heard phase k
      → let v = next (view phase k) t in
      Trace station (heard ++ (b ∷ [])) v.phase v.kept
  unfolding next stuffing
  trace-next k b (ignored f) e = tt
  trace-next k b (begins s) e =
      record { before = heard; split = ap (λ (x : ℕ). heard ++ (x ∷ [])) s; most = zero-le; taken = taken_none station }
  trace-next k b (stops s) e = tt
  trace-next k b (address a) e =
      trace-plain k b (address_plain good a) (address_room a) (taken-first k b a) e
  trace-next k b (no_address a) e = tt
  trace-next k b (waits l s) e =
      (ends_more k (wire k ++ (0xFF ∷ [])) b e (ap (λ (x : ℕ). wire k ++ (x ∷ [])) s) e.most e.taken, l)
  trace-next k b (plain l other room) e = trace-plain k b other room (taken-later k b e.taken l) e
  trace-next k b (pair known room) e =
      let x = 0xFF - b in
      let l = k ++ (x ∷ []) in
      ends_more l (wire l) b e.0
      (append_assoc (wire k) (0xFF ∷ []) (b ∷ []) ∙ (rw (stuffed-partner b known) at (wire-more k x)))
      (simp length-append (omega arith)) (taken-later k x e.0.taken e.1)
  trace-next k b (no_pair over f) e = tt
  trace-next k b (long_plain l other full) e = tt
  trace-next k b (long_pair known full) e = tt

-- ---- where a FRAME is told

-- a stop byte tells FRAME only after a content that is long enough and whose check is right; it carries what stands before the check
pub record IsFrame (check : Check) (k : List ℕ) (v : Verdict) : Type 0 where
  pub least : least_content ≤ length k
  pub whole : k ≡ with_check check (front check k)
  pub carried : take v.length k ≡ front check k
  pub within : v.length ≤ length k

pub verdict-frame : (check : Check) (k : List ℕ) → FRAME ≡ named (Some (verdict check k).event) → IsFrame check k (verdict check k)
unfolding front
verdict-frame check k =
    by-stop check k (λ (v : Verdict). FRAME ≡ named (Some v.event) → IsFrame check k v) (λ few e. no-case (cc))
    (λ least w e. no-case (cc))
    (λ least r e. record { least = least; whole = right-with_check check k r; carried = refl; within = omega arith })

told-frame : {place p : ℕ} {content c : List ℕ} (n : Name) → Memᴰ (told_at place FRAME content) (note p n c)
    → (place ≡ p) × (FRAME ≡ n) × (content ≡ c)
unfolding note
told-frame {place} {p} {content} {c} n =
    cond-elim (λ (l : List Told). Memᴰ (told_at place FRAME content) l → (place ≡ p) × (FRAME ≡ n) × (content ≡ c)) (happened n)
    (λ t m. let e = Memᴰ.eq_of_singleton m in
    (ap (λ (x : Told). x.place) e, ap (λ (x : Told). x.event) e, ap (λ (x : Told). x.content) e))
    (λ f m. absurd (Memᴰ.not-nil m))

module _ (station : Station) (good : has_address station ≡ true) where
  -- the start, the stuffing of a content and a stop are its image
  image-stands : {content k heard : List ℕ} (rest : List ℕ) (b : ℕ) → checked station content ≡ k → least_content ≤ length k → b ≡ stop
      → Ends station heard k (wire k)
      → Stands station (heard ++ (b ∷ rest)) (length heard + 1) content
  unfolding image
  image-stands {content} {k} {heard} rest b is least s e =
      let whole : heard ++ (b ∷ rest) ≡ e.before ++ (image k ++ rest) =
      ap₂ (λ (h : List ℕ) (x : ℕ). h ++ (x ∷ rest)) e.split s
      ∙ append_assoc e.before (wire k) (stop ∷ rest)
      ∙ ap (λ (l : List ℕ). e.before ++ (start ∷ l)) (sym (append_assoc (stuffing k) (stop ∷ []) rest)) in
      let end : length heard + 1 ≡ length e.before + length (image k) =
      omega (arith, ap length e.split, length-append e.before (wire k), length-append (stuffing k) (stop ∷ [])) in
      record {
        before = e.before;
        after = rest;
        split = rw is whole;
        ends = rw is end;
        least = rw is least;
        most = rw is
            e.most;
        address = rw is e.taken;
      }

  stop-stands : (heard k rest : List ℕ) (b : ℕ) → b ≡ stop → Ends station heard k (wire k) → FRAME ≡ named (Some (verdict (check_on station) k).event)
      → Stands station (heard ++ (b ∷ rest)) (length heard + 1) (take (verdict (check_on station) k).length k)
  stop-stands heard k rest b s e frame =
      let f = verdict-frame (check_on station) k frame in
      image-stands rest b (ap (with_check (check_on station)) f.carried ∙ sym f.whole) f.least s e

  noted-stands : (heard rest : List ℕ) {phase : Phase} (k : List ℕ) (b place : ℕ) (content : List ℕ) {t : Turn}
      → ByRule station (length k) b phase t → Trace station heard phase k
      → Memᴰ (told_at place FRAME content) (noted station (view phase k) (length heard + 1) t)
      → Stands station (heard ++ (b ∷ rest)) place content
  unfolding noted outcome note
  noted-stands heard rest k b place front (stops s) e m =
      let f = told-frame (named (Some (verdict (check_on station) k).event)) m in
      rw (f.0, f.2) (stop-stands heard k rest b s e f.1)
  noted-stands heard rest k b place front (no_address a) e m = no-case (cc (told-frame ADDR m).1)
  noted-stands heard rest k b place front (no_pair over f) e m = no-case (cc (told-frame PAIR m).1)
  noted-stands heard rest k b place front (long_plain l other full) e m = no-case (cc (told-frame LONG m).1)
  noted-stands heard rest k b place front (long_pair known full) e m = no-case (cc (told-frame LONG m).1)
  noted-stands heard rest k b place front (ignored f) e m = absurd (Memᴰ.not-nil m)
  noted-stands heard rest k b place front (begins s) e m = absurd (Memᴰ.not-nil m)
  noted-stands heard rest k b place front (address a) e m = absurd (Memᴰ.not-nil m)
  noted-stands heard rest k b place front (waits l s) e m = absurd (Memᴰ.not-nil m)
  noted-stands heard rest k b place front (plain l other room) e m = absurd (Memᴰ.not-nil m)
  noted-stands heard rest k b place front (pair known room) e m = absurd (Memᴰ.not-nil m)

  pub tell-stands : (w heard : List ℕ) (v : View) → Trace station heard v.phase v.kept → (place : ℕ) (content : List ℕ)
      → Memᴰ (told_at place FRAME content) (tell station v (length heard) w)
      → Stands station (heard ++ w) place content
  unfolding tell
  tell-stands [] heard v e place content m = absurd (Memᴰ.not-nil m)
  tell-stands (b ∷ bs) heard v e place content m =
      let t = turns station v b in
      let why = turn-rule station v.phase (length v.kept) b in
      let on = tell-stands bs (heard ++ (b ∷ [])) (next v t) (trace-next station good heard v.kept b why e) place content in
      let end : length heard + 1 ≡ length (heard ++ (b ∷ [])) = sym (length-append heard (b ∷ [])) in
      ⊎_elim (noted-stands heard bs v.kept b place content why e)
      (λ n. rw append_assoc at (on (subst (λ (at : ℕ). Memᴰ (told_at place FRAME content) (tell station (next v t) at bs)) end n)))
      (Memᴰ.append_cases (noted station v (length heard + 1) t) m)
