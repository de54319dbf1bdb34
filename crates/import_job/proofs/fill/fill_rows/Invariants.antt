-- One row after the other.
use Rattle.std.proofs.Common.{◌+◌, ◌*◌}
use Rattle.import_job.proofs.Rows.{Rowing}
use Rattle.import_job.proofs.fill.fill_rows.Given as goal

abbrev pub invariant-loop-i : goal.invariant-loop-i
invariant-loop-i l = Rowing l.bytes l.from l.initial.xs l.initial.ys l.initial.kinds l.xs l.ys l.kinds (l.from + l.i) (5 * l.i)
