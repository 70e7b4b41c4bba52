-- `receiver::hear`: at each turn, the bytes that are left give, from the receiver so far, what the whole piece gives from the first.
-- Assumes nothing.
use mathlib.Core.Path.{◌≡◌}
use Prim.Native.Nat.{◌-◌, ◌≤◌}
use lib.ListN.{length}
use Rattle.link_spec.specs.declared.receiver.Phase.TheVariants.{Outside}
use Rattle.link_spec.specs.Receiving.{receiver_of}
use Rattle.link_spec.proofs.Laws.Receiving.{Going}
use Rattle.link.proofs.receiver.hear.Given as goal

abbrev pub invariant-loop-taken : goal.invariant-loop-taken
invariant-loop-taken l =
    Going l.piece (receiver_of l.station l.initial.phase l.initial.count l.initial.content) l.taken (receiver_of l.station l.phase l.count l.content)

abbrev pub decreases-loop-taken : goal.decreases-loop-taken
decreases-loop-taken l = length l.piece - l.taken

-- while bytes are ignored the receiver is outside a frame, and stays as it is
abbrev pub invariant-loop-taken-2 : goal.invariant-loop-taken-2
invariant-loop-taken-2 l =
    (l.initial.taken ≤ l.taken) × (l.phase ≡ Outside) × Going l.piece l.fn.receiver l.taken (receiver_of l.station l.phase l.count l.content)

abbrev pub decreases-loop-taken-2 : goal.decreases-loop-taken-2
decreases-loop-taken-2 l = length l.piece - l.taken
