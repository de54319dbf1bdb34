-- By the answer.
use Rattle.rules.specs.Jobs.{import_counts}
use Rattle.stitch_box_c.proofs.job_counts.Goals as goal

pub returns-in-Ok : goal.returns-in-Ok
unfolding import_counts
returns-in-Ok c = rw c.in-Ok.is

pub returns-in-Err : goal.returns-in-Err
unfolding import_counts
returns-in-Err c = rw c.in-Err.is
