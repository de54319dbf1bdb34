-- One turn after the other, by `Going`; then the rest.
use Prim.Native.Nat.{◌-◌}
use lib.ListN.{length}
use Rattle.read_vp3_stitches.proofs.Filling.{Going}
use Rattle.read_vp3_stitches.proofs.fill.fill_stitches.Given as goal

abbrev pub invariant-loop-at : goal.invariant-loop-at
invariant-loop-at l = Going l.bytes l.initial.b 0 l.initial.places l.initial.runs l.b l.at l.places l.runs

abbrev pub decreases-loop-at : goal.decreases-loop-at
decreases-loop-at l = length l.bytes - l.at
