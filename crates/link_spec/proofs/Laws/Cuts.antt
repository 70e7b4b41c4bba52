-- What a hearing tells depends on the stream alone: it is what the bytes tell one by one, however the stream is cut into calls.
-- Assumes nothing.
use mathlib.Core.Path.{◌≡◌, sym, ap, ap₂, subst⁻¹, ◌∙◌}
use mathlib.Core.Bool.{true, false}
use mathlib.Core.List.{List, [], ◌∷◌, ◌++◌}
use Prim.Native.Nat.{ℕ, ◌+◌}
use native.Mathlib.Nat.{add-zero}
use native.Mathlib.Omega.{arith}
use lib.ListN.{drop, drop_of_length-le}
use Rattle.std.specs.Prelude.{Result}
use Rattle.ground.specs.declared.refusal.Refusal.{Refusal}
use Rattle.ground.proofs.Laws.Lists.{drop-on}
use Rattle.link_spec.specs.declared.station.Station.{Station}
use Rattle.link_spec.specs.declared.receiver.Receiver.{Receiver}
use Rattle.link_spec.specs.declared.receiver.Heard.{Heard}
use Rattle.link_spec.specs.Station.{has_address}
use Rattle.link_spec.specs.Receiving.{Said, saying, turn_at, moved, has_event, outcome_at, said_of, heard, received}
use Rattle.link_spec.specs.Hearing.{Told, note, tells, Hearing, over, call}
use Rattle.link_spec.proofs.Laws.Fit.{sound-at, Fit, fit_at, fit-good}
use Rattle.link_spec.proofs.Laws.Receiving.{heard-elim, hears}
use Rattle.link_spec.proofs.Laws.View.{View, seen, turns, next, noted, turns-seen, seen-moved, noted-seen, quiet}

-- what the bytes after a place tell one by one
unfoldable pub tell : Station → View → ℕ → List ℕ → List Told
tell station v at [] = []
tell station v at (b ∷ bs) = noted station v (at + 1) (turns station v b) ++ tell station (next v (turns station v b)) (at + 1) bs

-- the same of a receiver
tell-receiver : {station : Station} {s : Receiver} → Fit station s → (at b : ℕ) (l : List ℕ)
    → tell station (seen s) at (b ∷ l) ≡ noted station (seen s) (at + 1) (turn_at s b) ++ tell station (seen (moved s (turn_at s b))) (at + 1) l
unfolding tell
tell-receiver {station} {s} fit at b l =
    rw (seen-moved fit (turn_at s b) (sound-at s b), turns-seen fit b)

module _ (station : Station) (stream : List ℕ) (before : ℕ) where
  -- one call, which has taken some bytes, tells the next bytes up to its event, and leaves the others
  abbrev Tells : Said → ℕ → Receiver → List ℕ → Type 0
  Tells said taken s l =
      Fit station said.receiver
      × (tells before said ++ tell station (seen said.receiver) (before + said.taken) (drop (before + said.taken) stream)
      ≡ tell station (seen s) (before + taken) l)

  -- the place of the next byte, counted from the stream's start and from the call's
  shift : (taken : ℕ) → before + (taken + 1) ≡ before + taken + 1
  shift taken = omega arith

  event-tells : {s : Receiver} → Fit station s → (b : ℕ) (l : List ℕ) (taken : ℕ) → drop (before + (taken + 1)) stream ≡ l
      → let t = turn_at s b in
      Tells (said_of (moved s t) (outcome_at s t) (taken + 1)) taken s (b ∷ l)
  unfolding tells
  event-tells {s} fit b l taken left =
      let t = turn_at s b in (
        fit_at fit b,
        ap₂ ◌++◌ (noted-seen fit (before + (taken + 1)) t) (ap (tell station (seen (moved s t)) (before + (taken + 1))) left)
            ∙ ap (λ (n : ℕ). noted station (seen s) n t ++ tell station (seen (moved s t)) n l) (shift taken)
            ∙ sym (tell-receiver fit (before + taken) b l),
      )

  on-tells : {s : Receiver} → Fit station s → (b : ℕ) (l : List ℕ) (taken : ℕ) (said : Said)
      → has_event (turn_at s b) ≡ false
      → Tells said (taken + 1) (moved s (turn_at s b)) l
      → Tells said taken s (b ∷ l)
  on-tells {s} fit b l taken said none rest =
      let t = turn_at s b in (
        rest.0,
        rest.1
            ∙ ap (λ (n : ℕ). tell station (seen (moved s t)) n l) (shift taken)
            ∙ ap (λ (e : List Told). e ++ tell station (seen (moved s t)) (before + taken + 1) l)
            (sym (quiet station (seen s) (before + taken + 1) t none))
            ∙ sym (tell-receiver fit (before + taken) b l),
      )

  left-next : (b : ℕ) (l : List ℕ) (taken : ℕ) → drop (before + taken) stream ≡ b ∷ l → drop (before + (taken + 1)) stream ≡ l
  left-next b l taken left = ap (λ (n : ℕ). drop n stream) (shift taken) ∙ drop-on stream (before + taken) 1 left

  heard-tells : (rest piece : List ℕ) (taken : ℕ) (s : Receiver) → Fit station s → drop (before + taken) stream ≡ piece ++ rest
      → Tells (heard taken s piece) taken s (piece ++ rest)
  unfolding tells note
  heard-tells rest =
      heard-elim
      (λ (taken : ℕ) (s : Receiver) (piece : List ℕ) (said : Said). Fit station s → drop (before + taken) stream ≡ piece ++ rest
      → Tells said taken s (piece ++ rest))
      (λ taken s fit left. (fit, ap (tell station (seen s) (before + taken)) left))
      (λ taken s b bs y fit left. event-tells fit b (bs ++ rest) taken (left-next b (bs ++ rest) taken left))
      (λ taken s b bs said n h fit left. on-tells fit b (bs ++ rest) taken said n
      (h (fit_at fit b) (left-next b (bs ++ rest) taken left)))

module _ {station : Station} (good : has_address station ≡ true) (stream : List ℕ) where
  -- one call, by its statement
  call-tells : {s : Receiver} (before : ℕ) (piece rest : List ℕ) (r : Result Heard Refusal)
      → Fit station s
      → drop before stream ≡ piece ++ rest
      → saying s r ≡ received s piece
      → Fit station (saying s r).receiver
      × (tells before (saying s r) ++ tell station (seen (saying s r).receiver) (before + (saying s r).taken) (drop (before + (saying s r).taken) stream)
      ≡ tell station (seen s) before (drop before stream))
  call-tells {s} before piece rest r fit continues says =
      let start : drop (before + 0) stream ≡ piece ++ rest = rw (add-zero before) continues in
      let says' : saying s r ≡ heard 0 s piece = says ∙ hears s piece (fit-good good fit) in
      let h : Tells station stream before (saying s r) 0 s (piece ++ rest) =
      subst⁻¹ (λ (said : Said). Tells station stream before said 0 s (piece ++ rest)) says'
      (heard-tells station stream before rest piece 0 s fit start) in
      (h.0, h.1 ∙ ap₂ (tell station (seen s)) (add-zero before) (sym continues))

  -- a hearing tells what the bytes tell one by one
  pub hearing-tells : {s : Receiver} {before : ℕ} {all : List Told}
      → Fit station s → Hearing stream s before all → all ≡ tell station (seen s) before (drop before stream)
  unfolding tell
  hearing-tells fit (over out) = rw (drop_of_length-le stream out)
  hearing-tells {s} {before} fit (call piece rest r continues says more) =
      let one = call-tells before piece rest r fit continues says in
      ap (λ (l : List Told). tells before (saying s r) ++ l) (hearing-tells one.0 more) ∙ one.1
