-- Calls cut at will go on: a receiver or a tape that the calls can reach is none that a call refuses, and each call takes what it should.
-- Assumes nothing.
use mathlib.Core.Path.{◌≡◌, refl, ap, subst⁻¹, ◌∙◌}
use mathlib.Core.Bool.{false}
use mathlib.Core.List.{List, [], ◌∷◌}
use Prim.Native.Nat.{ℕ, ◌≤◌, ◌<◌}
use native.Mathlib.Omega.{arith}
use lib.ListN.{length}
use Rattle.std.specs.Prelude.{Result}
use Rattle.ground.specs.declared.refusal.Refusal.{Refusal}
use Rattle.link_spec.specs.declared.station.Station.{Station}
use Rattle.link_spec.specs.declared.receiver.Receiver.{Receiver}
use Rattle.link_spec.specs.declared.receiver.Heard.{Heard}
use Rattle.link_spec.specs.Events.{happened}
use Rattle.link_spec.specs.Receiving.{bad_receiver, Said, saying, received}
use Rattle.link_spec.proofs.Laws.Receiving.{refused-only, received-prefix, received-takes, stays-good}
use Rattle.link_spec.proofs.Laws.Fresh.{fresh-good}
use Rattle.tape_spec.specs.declared.tape.Tape.{Tape}
use Rattle.tape_spec.specs.declared.tape.Listed.{Listed}
use Rattle.tape_spec.specs.Limits.{most_records, least_room}
use Rattle.tape_spec.specs.Taping.{bad_tape, is_over, ListedOut, listed_out, listed}
use Rattle.tape_spec.proofs.Laws.Taping.{lists-chunk, listed-within, listed-some, fresh-fine, listed-fine}
use Rattle.demands.specs.Going as going
use Rattle.demands.specs.Going.{ReachedReceiver, TakesPiece, ReachedTape, TakesChunk}

-- ---- a receiver

reached-good : {station : Station} {s : Receiver} → ReachedReceiver station s → bad_receiver s ≡ false
reached-good (going.fresh fr) = fresh-good fr
reached-good (going.after {s} was piece r says) =
    ap (λ (said : Said). bad_receiver said.receiver) says ∙ stays-good s piece (reached-good was)

pub receiver-goes-on : {station : Station} {s : Receiver} → ReachedReceiver station s → (piece : List ℕ) (r : Result Heard Refusal) → saying s r ≡ received s piece
    → TakesPiece s piece (saying s r)
receiver-goes-on {s = s} was piece r says =
    let good = reached-good was in
    let t = received-takes s piece good in
    subst⁻¹ (TakesPiece s piece) says
    (record {
      fine = refused-only s piece ∙ rw good refl;
      most = omega (arith, t.most);
      some = t.some;
      all = λ quiet. omega (arith, t.all (ap happened quiet));
      just = received-prefix s piece good;
    })

-- ---- a tape

reached-fine : {t : Tape} → ReachedTape t → bad_tape t ≡ false
reached-fine (going.fresh is) = ap bad_tape is ∙ fresh-fine
reached-fine (going.after {t} was chunk out last r says) =
    ap (λ (d : ListedOut). bad_tape d.tape) says ∙ listed-fine t chunk out (reached-fine was)

reached-few : {t : Tape} → ReachedTape t → t.records ≤ most_records
reached-few (going.fresh is) = omega (arith, ap (λ (t : Tape). t.records) is)
reached-few (going.after {t} was chunk out last r says) =
    subst⁻¹ (λ (d : ListedOut). d.tape.records ≤ most_records) says (listed-within t chunk out (reached-few was)).records

pub tape-goes-on : {t : Tape} → ReachedTape t → (chunk out last : List ℕ) (r : Result Listed Refusal) → least_room ≤ length out
    → listed_out t r last ≡ listed t chunk out
    → TakesChunk t chunk out (listed_out t r last)
tape-goes-on {t = t} was chunk out last r roomy says =
    let fine = reached-fine was in
    let within = listed-within t chunk out (reached-few was) in
    subst⁻¹ (TakesChunk t chunk out) says
    (record {
      fine = ap (λ (d : ListedOut). d.refusal) (lists-chunk t chunk out fine roomy);
      most = within.taken;
      within = within.written;
      some = λ any more. takes chunk any more;
    })
  where
    takes : (chunk : List ℕ) → 0 < length chunk → is_over t.next ≡ false → 0 < (listed t chunk out).taken
    takes [] any more = absurd (omega arith)
    takes (b ∷ bs) any more = listed-some t b bs out (reached-fine was) roomy more
