-- The head, and then what comes is the rows of the commands that are left.
use Rattle.export_job.proofs.Fields.{RowLoop}
use Rattle.export_job.proofs.put_commands.Given as goal

abbrev pub invariant-loop-k : goal.invariant-loop-k
invariant-loop-k l = RowLoop l.xs l.ys l.kinds l.initial.out l.initial.to l.out l.to l.i l.e l.k
