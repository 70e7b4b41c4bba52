-- `values::with_value`: the value has the parameter's length, so it is all that stands in the parameter's place.
-- Assumes nothing.
use native.Mathlib.Omega.{arith}
use Rattle.request_spec.proofs.Laws.Parameters.{value-length}
use Rattle.reader.proofs.values.with_value.Goals as goal

pub bounds-value-0 : goal.bounds-value-0
bounds-value-0 c =
    omega (arith, value-length c.args.value.now c.in-Speed.is c.requires)

pub copy_from_slice-requires : goal.copy_from_slice-requires
copy_from_slice-requires c =
    omega (arith, c.well_formed.0, value-length c.args.value.now c.in-Settings.is c.requires)

pub copy_from_slice-requires-in-Cell : goal.copy_from_slice-requires-in-Cell
copy_from_slice-requires-in-Cell c =
    omega (arith, c.well_formed.0, value-length c.args.value.now c.in-Cell.is c.requires)
