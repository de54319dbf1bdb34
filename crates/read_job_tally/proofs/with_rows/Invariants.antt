-- One row after the other.
use Rattle.std.proofs.Common.{◌*◌}
use Rattle.read_job_tally.proofs.Gathering.{Gathering}
use Rattle.read_job_tally.proofs.with_rows.Given as goal

abbrev pub invariant-loop-i : goal.invariant-loop-i
invariant-loop-i l = Gathering l.bytes l.initial.now l.now (5 * l.i)
