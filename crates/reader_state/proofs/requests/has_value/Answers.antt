-- `requests::has_value`: each arm answers the case of `has_value` that its parameter names; a speed has one byte.
-- Assumes nothing.
use native.Mathlib.Omega.{arith}
use Rattle.request_spec.proofs.Laws.Parameters.{value-length}
use Rattle.reader_state.proofs.requests.has_value.Goals as goal

pub bounds-value-0 : goal.bounds-value-0
bounds-value-0 c =
    omega (arith, value-length c.args.value.now c.in-Speed.is c.requires)
