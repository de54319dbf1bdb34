-- One field after the other, by `Going`.
use Prim.Native.Nat.{◌-◌}
use lib.ListN.{length}
use Rattle.import_job.proofs.Walked.{Going}
use Rattle.import_job.proofs.check_job.Given as goal

abbrev pub invariant-loop-w : goal.invariant-loop-w
invariant-loop-w l = Going l.job l.w

abbrev pub decreases-loop-w : goal.decreases-loop-w
decreases-loop-w l = length l.job - l.w.at
