-- `list_tape`: the last row ends within the buffer.
use Rattle.std.proofs.Common.{sym, arith, zero-le}
use Rattle.std.proofs.lemmas.List.{length-take-le}
use Rattle.ground.proofs.Laws.Laying.{put-ends}
use Rattle.listing.proofs.list_tape.Goals as goal

pub slice_bounds-print-end : goal.slice_bounds-print-end
slice_bounds-print-end c = omega (arith, c.write_last.auto, put-ends _ _ _ c.in_ok-end.ensures zero-le)

pub slice_bounds-print-end-2 : goal.slice_bounds-print-end-2
slice_bounds-print-end-2 c = sym (length-take-le _ _ (omega (arith, c.write_last.auto, put-ends _ _ _ c.in_ok-end.ensures zero-le)))
