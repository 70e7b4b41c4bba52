-- `device::lay_number`: what is copied are the four bytes of `low_first`.
-- Assumes nothing.
use Rattle.ground.proofs.Laws.Laying.{laid-piece}
use Rattle.request_spec.specs.Header.{low_first}
use Rattle.request.proofs.device.lay_number.Goals as goal

pub returns : goal.returns
returns c =
    let a = c.args in
    rw (c.copy_from_slice.ensures.after, c.to_le_bytes.ensures) (laid-piece a.bytes.now a.at (low_first a.number) c.requires)
