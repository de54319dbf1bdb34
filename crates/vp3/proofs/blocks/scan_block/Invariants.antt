-- What is counted and what the rest of the block takes come to the whole.
use Prim.Native.Nat.{◌-◌}
use Rattle.vp3.proofs.Stitches.{Scanning}
use Rattle.vp3.proofs.blocks.scan_block.Given as goal

abbrev pub invariant-loop-i : goal.invariant-loop-i
invariant-loop-i l = Scanning l.xs l.ys l.kinds l.from l.x l.y l.n l.i l.px l.py l.len

abbrev pub decreases-loop-i : goal.decreases-loop-i
decreases-loop-i l = l.n - l.i
