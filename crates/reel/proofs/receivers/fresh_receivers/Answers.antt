-- `receivers::fresh_receivers`: each receiver is the fresh one of its line, and the addressed line's is the master's, whose address a station
-- may have.
-- Assumes nothing.
use mathlib.Core.Path.{◌≡◌, refl, sym, ap, ap₂, ◌∙◌}
use Rattle.std.specs.Prelude.{Result, Ok, Err}
use Rattle.std.specs.Result.{IsOk}
use Rattle.ground.proofs.Laws.Refusals.{number-some}
use Rattle.link_spec.specs.declared.receiver.Receiver.{Receiver}
use Rattle.link_spec.specs.declared.receiver.RefusedStation.{RefusedStation}
use Rattle.link_spec.specs.Receiving.{Made, made, fresh_made}
use Rattle.link_spec.proofs.Laws.Fresh.{receiver-made}
use Rattle.reel.proofs.receivers.fresh_receivers.Goals as goal

master-is : (r : Result Receiver RefusedStation) → made r ≡ fresh_made 0x00 → IsOk r
unfolding fresh_made
master-is (Ok s) says = refl
master-is (Err refused) says = absurd (number-some refused.refusal (ap (λ (m : Made). m.refusal) says))

pub unwrap-requires : goal.unwrap-requires
unwrap-requires c = master-is c.fresh_addressed.result c.fresh_addressed.ensures

pub returns : goal.returns
returns c =
    ap₂ (λ (p a : Receiver). record { point = p; addressed = a }) c.fresh_point.ensures
    (ap (λ (m : Made). m.receiver) (sym (ap made c.unwrap.ensures) ∙ c.fresh_addressed.ensures) ∙ receiver-made 0x00)
