-- One step after the other, by `Counts`.
use Prim.Native.Nat.{◌-◌}
use lib.ListN.{length}
use Rattle.read_vp3_stitches.specs.Tallies.{Counts}
use Rattle.read_vp3_stitches.proofs.count.count_rest.Given as goal

abbrev pub invariant-loop-at : goal.invariant-loop-at
invariant-loop-at l = Counts l.bytes l.initial.t l.from (record { t = l.t; at = l.at })

abbrev pub decreases-loop-at : goal.decreases-loop-at
decreases-loop-at l = length l.bytes - l.at
