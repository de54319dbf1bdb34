-- By the answer.
use Rattle.rules.specs.Files.{read_counts}
use Rattle.stitch_box_c.proofs.counts_of.Goals as goal

pub returns-in-Ok : goal.returns-in-Ok
unfolding read_counts
returns-in-Ok c = rw c.in-Ok.is

pub returns-in-Err : goal.returns-in-Err
unfolding read_counts
returns-in-Err c = rw c.in-Err.is
