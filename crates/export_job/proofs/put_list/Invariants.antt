-- What comes is the fields of the commands that are left.
use Prim.Native.Nat.{◌-◌}
use Rattle.export_job.proofs.Fields.{FieldLoop}
use Rattle.export_job.proofs.put_list.Given as goal

abbrev pub invariant-loop-i : goal.invariant-loop-i
invariant-loop-i l = FieldLoop l.xs l.ys l.kinds l.initial.out l.at l.out l.n l.to l.i

abbrev pub decreases-loop-i : goal.decreases-loop-i
decreases-loop-i l = l.n - l.i
