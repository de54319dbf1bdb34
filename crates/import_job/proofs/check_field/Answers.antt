-- The field, and its content.
use Rattle.std.proofs.Common.{ap}
use Rattle.laws.specs.Exits.{exit}
use Rattle.rules.specs.Jobs.{fault_of}
use Rattle.import_job.proofs.Walked.{walks}
use Rattle.import_job.proofs.check_field.Goals as goal

pub returns-in_err-f : goal.returns-in_err-f
unfolding fault_of
returns-in_err-f c = rw (exit c.from_residual.ensures.1) (ap fault_of c.in_err-f.ensures)

pub returns : goal.returns
returns c = rw c.check_content.ensures (walks c.requires.0 c.in_ok-f.ensures)
