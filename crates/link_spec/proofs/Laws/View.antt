-- A receiver as it is seen in the proof of demand 3: where it is, and the content so far as a list. A turn moves the view as it moves
-- the receiver.
-- Assumes nothing.
use mathlib.Core.Path.{◌≡◌, refl, sym, ap, ap₂, ◌∙◌}
use mathlib.Core.Bool.{false, true≢false}
use mathlib.Core.List.{List, [], ◌∷◌, ◌++◌}
use Prim.Native.Nat.{ℕ}
use native.Mathlib.Numerals.{add-one}
use native.Mathlib.Omega.{arith}
use lib.ListN.{length, take}
use lib.Seq.{length-take-le, take-take, take-suc-set}
use Rattle.checks.specs.declared.kind.Check.{Check}
use Rattle.link_spec.specs.declared.station.Station.{Station}
use Rattle.link_spec.specs.declared.receiver.Phase.{Phase}
use Rattle.link_spec.specs.declared.receiver.Phase.TheVariants.{Outside, Inside, Pending}
use Rattle.link_spec.specs.declared.receiver.Turn.{Turn}
use Rattle.link_spec.specs.declared.receiver.Turn.TheVariants.{Rest, Begin, Wait, Keep, Stop, Tell}
use Rattle.link_spec.specs.declared.receiver.Receiver.{Receiver}
use Rattle.link_spec.specs.Station.{check_on}
use Rattle.link_spec.specs.Events.{named, event_told, length_told, verdict}
use Rattle.link_spec.specs.Turning.{turn}
use Rattle.link_spec.specs.Receiving.{so_far, turn_at, moved, has_event, outcome, outcome_at}
use Rattle.link_spec.specs.Hearing.{Told, note}
use Rattle.link_spec.proofs.Laws.Turning.{Sound}
use Rattle.link_spec.proofs.Laws.Fit.{outcome-length, Fit}

pub record View : Type 0 where
  pub phase : Phase
  pub kept : List ℕ

abbrev pub view : Phase → List ℕ → View
view phase kept = record { phase = phase; kept = kept }

abbrev pub nowhere : View
nowhere = view Outside []

abbrev pub seen : Receiver → View
seen s = view s.phase (so_far s)

-- ---- one byte

abbrev pub turns : Station → View → ℕ → Turn
turns station v b = turn station v.phase (length v.kept) b

unfoldable pub next : View → Turn → View
next v Rest = v
next v Begin = view Inside []
next v Wait = view Pending v.kept
next v (Keep b) = view Inside (v.kept ++ (b ∷ []))
next v Stop = nowhere
next v (Tell why) = nowhere

-- what is noted of a turn whose byte is at this place
unfoldable pub noted : Station → View → ℕ → Turn → List Told
noted station v place t =
    let o = outcome (check_on station) v.kept t in
    note place (named (event_told o)) (take (length_told o) v.kept)

-- ---- the receiver that is seen

module _ {station : Station} {s : Receiver} (fit : Fit station s) where
  length_seen : length (seen s).kept ≡ s.count
  length_seen = length-take-le s.count s.content (omega (arith, fit.sized, fit.within))

  pub turns-seen : (b : ℕ) → turn_at s b ≡ turns station (seen s) b
  turns-seen b = ap₂ (λ (l : Station) (n : ℕ). turn l s.phase n b) fit.on (sym length_seen)

  pub seen-moved : (t : Turn) → Sound s.count t → seen (moved s t) ≡ next (seen s) t
  unfolding moved next
  seen-moved Rest sound = refl
  seen-moved Begin sound = refl
  seen-moved Wait sound = refl
  seen-moved (Keep b) sound =
      ap (view Inside) (rw (add-one s.count) (take-suc-set s.content s.count b (omega (arith, sound, fit.sized))))
  seen-moved Stop sound = refl
  seen-moved (Tell why) sound = refl

  -- what an event carries is the front part of what was kept
  carried-seen : (check : Check) (t : Turn)
      → let n = length_told (outcome check (so_far s) t) in
      take n (moved s t).content ≡ take n (so_far s)
  unfolding moved outcome
  carried-seen check Rest = refl
  carried-seen check Begin = refl
  carried-seen check Wait = refl
  carried-seen check (Keep b) = refl
  carried-seen check Stop =
      let within = outcome-length check (so_far s) Stop in
      sym (take-take (verdict check (so_far s)).length s.count s.content (omega (arith, within, length_seen)))
  carried-seen check (Tell why) = refl

  pub noted-seen : (place : ℕ) (t : Turn)
      → let o = outcome_at s t in
      note place (named (event_told o)) (take (length_told o) (moved s t).content) ≡ noted station (seen s) place t
  unfolding noted
  noted-seen place t =
      ap (note place (named (event_told (outcome_at s t)))) (carried-seen (check_on s.station) t)
      ∙ ap (λ (l : Station). noted l (seen s) place t) fit.on

-- nothing is noted of a turn without an event
pub quiet : (station : Station) (v : View) (place : ℕ) (t : Turn) → has_event t ≡ false → noted station v place t ≡ []
unfolding noted outcome note
quiet station v place Rest e = refl
quiet station v place Begin e = refl
quiet station v place Wait e = refl
quiet station v place (Keep b) e = refl
quiet station v place Stop e = absurd (true≢false e)
quiet station v place (Tell why) e = absurd (true≢false e)
