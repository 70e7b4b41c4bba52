-- The writer of typed requests answers by the refusal table, and what it wrote is heard.
-- Assumes nothing.
use mathlib.Core.Path.{◌≡◌, refl, sym, ap, ◌∙◌}
use mathlib.Core.Bool.{false, cond, true≢false}
use mathlib.Core.List.{List, ◌∷◌, ◌++◌, Memᴰ}
use mathlib.Core.Logic.{◌⊎◌, inl, inr}
use Prim.Native.Nat.{ℕ, ◌+◌}
use native.Mathlib.Omega.{arith}
use lib.Dec.{ltb}
use lib.ListN.{length, take}
use borrow.Author.Tests.{ltb-true, ltb-false}
use Rattle.std.specs.Prelude.{Result, Ok, Err}
use Rattle.ground.specs.declared.refusal.Refusal.TheVariants.{BadRequest}
use Rattle.ground.specs.declared.refusal.Refusal.{Refusal}
use Rattle.ground.specs.Refusals.{tally, Keeps}
use Rattle.ground.proofs.Laws.Choice.{cond-elim}
use Rattle.wire_spec.specs.Image.{image}
use Rattle.wire_spec.specs.Writing.{After, after, not_written, image_written}
use Rattle.wire_spec.proofs.Laws.Writing.{written-short, written-whole, written_keeps}
use Rattle.link_spec.specs.declared.station.Station.TheVariants.{Point}
use Rattle.link_spec.specs.declared.receiver.Receiver.{Receiver}
use Rattle.link_spec.specs.Frame.{point_content}
use Rattle.link_spec.specs.Writers.{point_written, PointTable, too_long, bad_address, no_room, frame}
use Rattle.link_spec.specs.Events.{FRAME}
use Rattle.link_spec.specs.Hearing.{Told, told_at, IsFresh, Hearing}
use Rattle.link_spec.proofs.Laws.Writers.{point-goes-on, point-by-table}
use Rattle.link_spec.proofs.Laws.Listed.{point-listed}
use Rattle.request_spec.specs.declared.command.Command.{Command}
use Rattle.request_spec.specs.declared.command.Fault.{Fault}
use Rattle.request_spec.specs.Acceptance.{acceptance, is_accepted, Accepts}
use Rattle.request_spec.specs.Requesting.{request_written, RequestTable, bad_request, no_room, frame}
use Rattle.request_spec.proofs.Laws.Acceptance.{accepts, accepted, accepted-short}

-- a code with data is accepted or not
either : (k : Result Command Fault) → (is_accepted k ≡ false) ⊎ ((command : Command) × (k ≡ Ok command))
either (Err fault) = inl refl
either (Ok command) = inr (command, refl)

module _ (identifier code : ℕ) («data» out : List ℕ) where
  pub request-refused : is_accepted (acceptance code «data») ≡ false → request_written identifier code «data» out ≡ not_written BadRequest out
  unfolding request_written
  request-refused none = rw none

  pub request-written : {command : Command} → acceptance code «data» ≡ Ok command
      → point_written identifier code «data» out ≡ request_written identifier code «data» out
  unfolding request_written
  request-written asked = rw asked (point-goes-on identifier code «data» out (accepted-short (accepts code «data» asked)))

  -- the rows both ways
  pub by-table : RequestTable identifier code «data» out (request_written identifier code «data» out)
  unfolding request_written image_written
  by-table = of (acceptance code «data») refl
    where
      of : (k : Result Command Fault) → acceptance code «data» ≡ k → RequestTable identifier code «data» out
          (cond (is_accepted k) (image_written (point_content identifier code «data») out) (not_written BadRequest out))
      of (Err fault) is = bad_request (λ command row. true≢false (sym (ap is_accepted (accepted row)) ∙ ap is_accepted is))
      of (Ok command) is =
          cond-elim (RequestTable identifier code «data» out) (ltb (length out) (length (image (point_content identifier code «data»))))
          (λ short. no_room (accepts code «data» is) (ltb-true (length out) (length (image (point_content identifier code «data»))) short))
          (λ fits. frame (accepts code «data» is) (ltb-false (length out) (length (image (point_content identifier code «data»))) fits))

  written_as : {command : Command} → Accepts code «data» command
      → request_written identifier code «data» out ≡ image_written (point_content identifier code «data») out
  unfolding request_written
  written_as row = rw (accepted row)

  pub table-only : {w : After} → RequestTable identifier code «data» out w → w ≡ request_written identifier code «data» out
  table-only (bad_request none) = sym (request-refused (of (acceptance code «data») refl))
    where
      of : (k : Result Command Fault) → acceptance code «data» ≡ k → is_accepted k ≡ false
      of (Err fault) is = refl
      of (Ok command) is = absurd (none command (accepts code «data» is))
  table-only (no_room row short) = sym (written_as row ∙ written-short (point_content identifier code «data») out short)
  table-only (frame row fits) = sym (written_as row ∙ written-whole (point_content identifier code «data») out fits)

  -- a refused call leaves the buffer as before
  pub request-keeps : Keeps (request_written identifier code «data» out).tally.refusal out (request_written identifier code «data» out).out
  unfolding request_written
  request-keeps =
      cond-elim (λ (a : After). Keeps a.tally.refusal out a.out) (is_accepted (acceptance code «data»))
      (λ asked. written_keeps (point_content identifier code «data») out) (λ none refused. refl)

  -- where the writer did not refuse, there is a command
  pub written-asks : (request_written identifier code «data» out).tally.refusal ≡ 0
      → (command : Command) × (acceptance code «data» ≡ Ok command)
  written-asks done = of (either (acceptance code «data»))
    where
      of : (is_accepted (acceptance code «data») ≡ false) ⊎ ((command : Command) × (acceptance code «data» ≡ Ok command))
          → (command : Command) × (acceptance code «data» ≡ Ok command)
      of (inl bad) = absurd (omega (arith, sym (ap (λ (a : After). a.tally.refusal) (request-refused bad)) ∙ done))
      of (inr asks) = asks

  -- where it refused with 5, there is none
  pub refused-asks : (request_written identifier code «data» out).tally.refusal ≡ 5 → is_accepted (acceptance code «data») ≡ false
  refused-asks bad = of (either (acceptance code «data»))
    where
      no_row : {w : After} → PointTable identifier code «data» out w → w.tally.refusal ≡ 5 → ⊥
      no_row (too_long long) five = omega arith
      no_row (bad_address fits never) five = omega arith
      no_row (no_room fits good short) five = omega arith
      no_row (frame fits good room) five = omega arith

      of : (is_accepted (acceptance code «data») ≡ false) ⊎ ((command : Command) × (acceptance code «data» ≡ Ok command))
          → is_accepted (acceptance code «data») ≡ false
      of (inl none) = none
      of (inr (command, asked)) =
          absurd (no_row (point-by-table identifier code «data» out)
          (ap (λ (a : After). a.tally.refusal) (request-written asked) ∙ bad))

-- what the typed writer wrote, put anywhere into any stream, is heard whole
pub request-heard : (r : Result ℕ Refusal) (identifier code : ℕ) («data» out out' before rest : List ℕ) {s : Receiver} {all : List Told}
    → after r out' ≡ request_written identifier code «data» out
    → (tally r).refusal ≡ 0
    → IsFresh Point s
    → Hearing (before ++ (take (tally r).count out' ++ rest)) s 0 all
    → Memᴰ (told_at (length before + (tally r).count) FRAME (identifier ∷ code ∷ «data»)) all
request-heard r identifier code «data» out out' before rest says done fr hearing =
    let asked = (written-asks identifier code «data» out (sym (ap (λ (a : After). a.tally.refusal) says) ∙ done)).1 in
    point-listed r identifier code «data» out out' before rest (says ∙ sym (request-written identifier code «data» out asked)) done fr hearing
