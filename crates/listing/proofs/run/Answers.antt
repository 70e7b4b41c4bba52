-- `run`: the header row ends within the buffer.
use Rattle.std.proofs.Common.{sym, arith, zero-le}
use Rattle.std.proofs.lemmas.List.{length-take-le}
use Rattle.ground.proofs.Laws.Laying.{put-ends}
use Rattle.listing.proofs.run.Goals as goal

pub slice_bounds-text-end : goal.slice_bounds-text-end
slice_bounds-text-end c = omega (arith, c.write_header.auto, put-ends _ _ _ c.in_ok-end.ensures zero-le)

pub slice_bounds-print-end : goal.slice_bounds-print-end
slice_bounds-print-end c = sym (length-take-le _ _ (omega (arith, c.write_header.auto, put-ends _ _ _ c.in_ok-end.ensures zero-le)))
