-- What is stored of the blocks so far, and what the blocks left give, come to the whole.
use Prim.Native.Nat.{◌+◌, ◌-◌}
use Rattle.vp3.proofs.Listings.{Going}
use Rattle.vp3.proofs.blocks.scan_list.Given as goal

abbrev pub invariant-loop-from : goal.invariant-loop-from
invariant-loop-from l =
    Going l.xs l.ys l.kinds l.initial.ends l.initial.lens l.ends l.lens l.n l.k l.from l.x l.y l.total

abbrev pub decreases-loop-from : goal.decreases-loop-from
decreases-loop-from l = l.n + 1 - l.from
