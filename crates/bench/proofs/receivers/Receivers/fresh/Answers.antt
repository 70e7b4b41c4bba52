-- `receivers::Receivers::fresh`: the master's address is one that a station may have.
use Rattle.std.proofs.Common.{◌≡◌, refl, ap, Ok, Err, Result}
use Rattle.std.specs.Prelude.{IsOk}
use Rattle.ground.proofs.Laws.Refusals.{number-some}
use Rattle.link_spec.specs.declared.receiver.Receiver.{Receiver}
use Rattle.link_spec.specs.declared.receiver.RefusedStation.{RefusedStation}
use Rattle.link_spec.specs.Receiving.{Made, made, fresh_made}
use Rattle.bench.proofs.receivers.Receivers.fresh.Goals as goal

is-made : (r : Result Receiver RefusedStation) → made r ≡ fresh_made 0 → IsOk r
unfolding fresh_made
is-made (Ok receiver) says = refl
is-made (Err refused) says = absurd (number-some refused.refusal (ap (λ (m : Made). m.refusal) says))

pub unwrap-requires : goal.unwrap-requires
unwrap-requires c = is-made c.fresh_addressed.result c.fresh_addressed.ensures
