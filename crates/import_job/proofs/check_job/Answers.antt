-- One field after the other, by `Going`.
use Rattle.std.proofs.Common.{◌∙◌}
use Rattle.laws.specs.Exits.{exit}
use Rattle.import_job.proofs.Walked.{too_long, going_start, going-not, going_done}
use Rattle.import_job.proofs.check_job.Goals as goal

pub returns-then-job-gt-LONGEST_FILE : goal.returns-then-job-gt-LONGEST_FILE
returns-then-job-gt-LONGEST_FILE c = rw (too_long c.args.job.now c.if-job-gt-LONGEST_FILE.true)

pub loop-w-init : goal.loop-w-init
loop-w-init c = going_start c.if-job-gt-LONGEST_FILE.false c.none.ensures

pub returns-in_err-w : goal.returns-in_err-w
returns-in_err-w c = rw (exit c.from_residual.ensures.1) (going-not c.loop-w.invariant c.in_err-w.ensures)

pub returns : goal.returns
returns c = c.check_end.ensures ∙ going_done c.loop-w.invariant c.loop-w-test.false
