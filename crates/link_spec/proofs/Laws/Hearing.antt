-- There is a hearing of every stream by a fresh receiver, so demand 3 is not empty.
-- Assumes nothing.
use mathlib.Core.Path.{◌≡◌, sym, ap, ◌∙◌}
use mathlib.Core.Bool.{false}
use mathlib.Core.List.{List, [], append-nil}
use Prim.Native.Nat.{ℕ, zero, suc, ◌+◌, ◌≤◌, ◌<◌}
use native.Mathlib.Decide.{dec_le}
use native.Mathlib.Omega.{arith}
use lib.ListN.{length, drop, length-drop}
use Rattle.link_spec.specs.declared.station.Station.{Station}
use Rattle.link_spec.specs.declared.receiver.Receiver.{Receiver}
use Rattle.link_spec.specs.Receiving.{Said, saying, bad_receiver}
use Rattle.link_spec.specs.Hearing.{Told, IsFresh, Hearing, over, call}
use Rattle.link_spec.proofs.Laws.Receiving.{received-answers, received-takes, stays-good}
use Rattle.link_spec.proofs.Laws.Fresh.{fresh-good}

module _ (stream : List ℕ) where
  abbrev Some : Receiver → ℕ → Type 0
  Some s before = (all : List Told) × Hearing stream s before all

  -- one call on all that is left, and then the rest; each takes a byte at least
  some_more : (before fuel : ℕ) (s : Receiver) → bad_receiver s ≡ false → before < length stream → length stream ≤ before + suc fuel
      → ((next : ℕ) (s : Receiver) → bad_receiver s ≡ false → length stream ≤ next + fuel → Some s next) → Some s before
  some_more before fuel s good more left rest =
      let piece = drop before stream in
      let a = received-answers s piece in
      let byte : 0 < length piece = rw (length-drop before stream) (omega arith) in
      let said = saying s a.0 in
      let taken : 0 < said.taken = rw (ap (λ (said : Said). said.taken) a.1) ((received-takes s piece good).some byte) in
      let stays = ap (λ (said : Said). bad_receiver said.receiver) a.1 ∙ stays-good s piece good in
      (_, call piece [] a.0 (sym (append-nil piece)) a.1 (rest (before + said.taken) said.receiver stays (omega arith)).1)

  some : (fuel before : ℕ) (s : Receiver) → bad_receiver s ≡ false → length stream ≤ before + fuel → Some s before
  some zero before s good left = ([], over {before = before} (omega arith))
  some (suc fuel) before s good left = go (dec_le (length stream) before) (some fuel)
    where
      go : Dec (length stream ≤ before)
          → ((next : ℕ) (s : Receiver) → bad_receiver s ≡ false → length stream ≤ next + fuel → Some s next) → Some s before
      go (yes out) rest = ([], over out)
      go (no more) rest = some_more before fuel s good (omega arith) left rest

pub hearing-some : {station : Station} {s : Receiver} → IsFresh station s → (stream : List ℕ) → (all : List Told) × Hearing stream s 0 all
hearing-some {s} fr stream = some stream (length stream) 0 s (fresh-good fr) (omega arith)
