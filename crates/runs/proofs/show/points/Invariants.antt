-- `points` stays within the buffer. Assumes nothing.
use Rattle.std.proofs.Common.{◌≤◌}
use Rattle.runs.proofs.show.points.Given as goal

abbrev pub invariant-loop-p : goal.invariant-loop-p
invariant-loop-p l = l.to ≤ 65536
