-- What is written is as far as the place; what comes is what the commands left take, from the last stitch.
use Prim.Native.Nat.{◌-◌}
use Rattle.rules.specs.Lists.{commands}
use Rattle.rules.specs.Vp3.{stitches_from}
use Rattle.vp3.specs.Blocks.{between}
use Rattle.vp3.proofs.Stitches.{Stitching}
use Rattle.vp3.proofs.blocks.put_stitches.Given as goal

abbrev pub invariant-loop-i : goal.invariant-loop-i
invariant-loop-i l =
    Stitching l.xs l.ys l.kinds l.initial.out l.at (stitches_from l.x l.y (between (commands l.xs l.ys l.kinds) l.from l.end)) l.out l.to l.i l.end l.px l.py

abbrev pub decreases-loop-i : goal.decreases-loop-i
decreases-loop-i l = l.end - l.i
