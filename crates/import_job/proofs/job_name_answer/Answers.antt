-- By what the first pass tells.
use Rattle.import_job.proofs.Imported.{sound-is, no-fault}
use Rattle.import_job.proofs.job_name_answer.Goals as goal

pub name_at-requires : goal.name_at-requires
name_at-requires c = let s = c.args.job.now in no-fault s (sound-is s c.in_ok-check_job.ensures).0
