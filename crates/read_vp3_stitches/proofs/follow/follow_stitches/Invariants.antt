-- One step after the other, by `Going`.
use Prim.Native.Nat.{◌-◌}
use lib.ListN.{length}
use Rattle.read_vp3_stitches.specs.Ways.{on_way}
use Rattle.read_vp3_stitches.proofs.Following.{Going}
use Rattle.read_vp3_stitches.proofs.follow.follow_stitches.Given as goal

abbrev pub invariant-loop-w : goal.invariant-loop-w
invariant-loop-w l = Going l.bytes (on_way l.bytes l.initial.w) l.w

abbrev pub decreases-loop-w : goal.decreases-loop-w
decreases-loop-w l = length l.bytes - l.w.at
