-- Demand 3: the FRAMEs that a hearing tells are exactly the frames whose image stands in the stream; and how the stream was cut does not
-- matter.
-- Assumes nothing.
use mathlib.Core.Path.{◌≡◌, refl, sym, ap, subst, subst⁻¹, ◌∙◌}
use mathlib.Core.Bool.{true}
use mathlib.Core.List.{List, [], ◌∷◌, ◌++◌, Memᴰ}
use Prim.Native.Nat.{ℕ, suc, ◌+◌, ◌-◌, ◌≤◌}
use native.Mathlib.Nat.{add-zero}
use native.Mathlib.Omega.{arith}
use lib.ListN.{length, take}
use Rattle.std.specs.Prelude.{Some}
use Rattle.ground.proofs.Laws.Choice.{cond-elim}
use Rattle.checks.specs.declared.kind.Check.{Check}
use Rattle.checks.specs.Check.{check_length, with_check, front}
use Rattle.checks.proofs.Laws.Right.{front-with_check, with_check-right}
use Rattle.wire_spec.specs.Image.{image}
use Rattle.link_spec.specs.declared.event.Event.TheVariants.{Frame}
use Rattle.link_spec.specs.declared.event.Verdict.{Verdict}
use Rattle.link_spec.specs.declared.station.Station.{Station}
use Rattle.link_spec.specs.declared.receiver.Phase.TheVariants.{Inside}
use Rattle.link_spec.specs.declared.receiver.Turn.TheVariants.{Stop}
use Rattle.link_spec.specs.declared.receiver.Receiver.{Receiver}
use Rattle.link_spec.specs.Limits.{least_content}
use Rattle.link_spec.specs.Station.{check_on, checked, has_address}
use Rattle.link_spec.specs.Events.{Name, FRAME, happened, named, telling, event_told, length_told, verdict}
use Rattle.link_spec.specs.Rules.{right}
use Rattle.link_spec.specs.Receiving.{outcome}
use Rattle.link_spec.specs.Hearing.{Told, told_at, note, IsFresh, Hearing}
use Rattle.link_spec.specs.Listing.{Stands, PlacesRise, Lists}
use Rattle.link_spec.proofs.Laws.Events.{verdict-only}
use Rattle.link_spec.proofs.Laws.View.{View, view, nowhere, turns, next, noted}
use Rattle.link_spec.proofs.Laws.Fresh.{fresh-begins}
use Rattle.link_spec.proofs.Laws.Cuts.{tell, hearing-tells}
use Rattle.link_spec.proofs.Laws.Crew.{image-tells}
use Rattle.link_spec.proofs.Laws.Desk.{tell-stands}

-- ---- places rise

rise-later : {at more : ℕ} (l : List Told) → at ≤ more → PlacesRise more l → PlacesRise at l
rise-later [] h r = tt
rise-later (t ∷ ts) h r = (omega (arith, r.0), r.1)

rise-note : (at : ℕ) (n : Name) (c : List ℕ) (l : List Told) → PlacesRise (at + 1) l → PlacesRise at (note (at + 1) n c ++ l)
unfolding note
rise-note at n c l r =
    cond-elim (λ (e : List Told). PlacesRise at (e ++ l)) (happened n) (λ t. (omega arith, r)) (λ f. rise-later l (omega arith) r)

rise-tell : (station : Station) (v : View) (at : ℕ) (w : List ℕ) → PlacesRise at (tell station v at w)
unfolding tell noted
rise-tell station v at [] = tt
rise-tell station v at (b ∷ bs) =
    let t = turns station v b in
    let o = outcome (check_on station) v.kept t in
    rise-note at (named (event_told o)) (take (length_told o) v.kept) (tell station (next v t) (at + 1) bs) (rise-tell station (next v t) (at + 1) bs)

-- ---- an image that stands is told

-- what is told from any state on is told after other bytes too
tell-after : (station : Station) (p l : List ℕ) (v : View) (at : ℕ) (x : Told)
    → ((u : View) → Memᴰ x (tell station u (at + length p) l)) → Memᴰ x (tell station v at (p ++ l))
unfolding tell
tell-after station [] l v at x m = subst (λ (n : ℕ). Memᴰ x (tell station v n l)) (add-zero at) (m v)
tell-after station (b ∷ p) l v at x m =
    let shift : at + suc (length p) ≡ at + 1 + length p = omega arith in
    mathlib.Core.List.Memᴰ.append_right (noted station v (at + 1) (turns station v b))
    (tell-after station p l (next v (turns station v b)) (at + 1) x (λ u. subst (λ (n : ℕ). Memᴰ x (tell station u n l)) shift (m u)))

right-verdict : (check : Check) (content : List ℕ) → let c = with_check check content in
    least_content ≤ length c → verdict check c ≡ telling Frame (length c - check_length check)
right-verdict check content least = sym (verdict-only check _ (right least (with_check-right check content)))

frame-noted : (station : Station) (content : List ℕ) (place : ℕ) → least_content ≤ length (checked station content)
    → noted station (view Inside (checked station content)) place Stop ≡ told_at place FRAME content ∷ []
unfolding noted outcome note front
frame-noted station content place least =
    ap (λ (v : Verdict). note place (named (Some v.event)) (take v.length (checked station content))) (right-verdict (check_on station) content least)
    ∙ ap (note place FRAME) (front-with_check (check_on station) content)

stands-told : (station : Station) → has_address station ≡ true → (stream : List ℕ) (v : View) (place : ℕ) (content : List ℕ)
    → Stands station stream place content
    → Memᴰ (told_at place FRAME content) (tell station v 0 stream)
stands-told station good stream v place content s =
    let x = told_at place FRAME content in
    let c = checked station content in
    let end : 0 + length s.before + length (image c) ≡ place = omega (arith, s.ends) in
    let told : Memᴰ x (noted station (view Inside c) (0 + length s.before + length (image c)) Stop) =
    rw (end, frame-noted station content place s.least) (mathlib.Core.List.Memᴰ.head refl) in
    let here : (u : View) → Memᴰ x (tell station u (0 + length s.before) (image c ++ s.after)) =
    λ u. subst⁻¹ (Memᴰ x) (image-tells station good u c s.after (0 + length s.before) s.most s.address)
    (mathlib.Core.List.Memᴰ.append_left (tell station nowhere (0 + length s.before + length (image c)) s.after) told) in
    subst⁻¹ (λ (w : List ℕ). Memᴰ x (tell station v 0 w)) s.split (tell-after station s.before (image c ++ s.after) v 0 x here)

-- ---- demand 3

-- by the statements of its calls, a hearing tells what the bytes tell one by one from outside a frame on
by_bytes : {station : Station} {s : Receiver} {stream : List ℕ} {all : List Told}
    → IsFresh station s → Hearing stream s 0 all → all ≡ tell station nowhere 0 stream
by_bytes {station} {stream} fr h =
    let b = fresh-begins fr in
    hearing-tells b.good stream b.fit h ∙ ap (λ (v : View). tell station v 0 stream) b.nowhere

pub hearing-lists : {station : Station} {s : Receiver} {stream : List ℕ} {all : List Told}
    → IsFresh station s → Hearing stream s 0 all → Lists station stream all
hearing-lists {station} {stream} fr h =
    let good = (fresh-begins fr).good in
    subst⁻¹ (Lists station stream) (by_bytes fr h)
    (record {
      rise = rise-tell station nowhere 0 stream;
      each = stands-told station good stream nowhere;
      only = tell-stands station good stream [] nowhere tt;
    })

-- the whole list of events with their places depends on the stream only, not on the cuts
pub cuts-free : {station : Station} {s r : Receiver} {stream : List ℕ} {all others : List Told}
    → IsFresh station s → Hearing stream s 0 all → IsFresh station r → Hearing stream r 0 others → all ≡ others
cuts-free fr h gr k = by_bytes fr h ∙ sym (by_bytes gr k)
