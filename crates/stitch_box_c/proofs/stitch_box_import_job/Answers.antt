-- What `import_job` answers, in numbers.
use mathlib.Core.Path.{ap}
use Rattle.rules.specs.declared.JobCounts.{JobCounts}
use Rattle.stitch_box_c.proofs.stitch_box_import_job.Goals as goal
use Rattle.rules.specs.Refusals.{answer_number}

pub returns : goal.returns
returns c = record {
  answer = _;
  imported = c.import_job-answer.ensures;
  number = c.answer_number.ensures;
  command_count = ap (λ (n : JobCounts). n.commands) c.job_counts-n.ensures;
  thread_byte_count = ap (λ (n : JobCounts). n.thread_bytes) c.job_counts-n.ensures;
}
