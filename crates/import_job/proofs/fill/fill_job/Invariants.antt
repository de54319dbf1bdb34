-- One field after the other, by `Filling`.
use Prim.Native.Nat.{◌-◌}
use lib.ListN.{length}
use Rattle.import_job.proofs.Filled.{Filling}
use Rattle.import_job.proofs.fill.fill_job.Given as goal

abbrev pub invariant-loop-f : goal.invariant-loop-f
invariant-loop-f l = Filling l.job l.initial.xs l.initial.ys l.initial.kinds l.initial.threads l.xs l.ys l.kinds l.threads l.f

abbrev pub decreases-loop-f : goal.decreases-loop-f
decreases-loop-f l = length l.job - l.f.at
