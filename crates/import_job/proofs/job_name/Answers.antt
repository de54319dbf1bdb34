-- The bytes at the name's place, and none under a refusal.
use Rattle.std.proofs.Common.{◌∙◌}
use Rattle.import_job.proofs.Imported.{name-told, no-name-told}
use Rattle.import_job.proofs.job_name.Goals as goal

pub returns-in-Ok : goal.returns-in-Ok
returns-in-Ok c = c.part.ensures ∙ name-told c.args.job.now _ c.in-Ok.ensures

pub returns-in-Err : goal.returns-in-Err
returns-in-Err c = c.part-in-Err.ensures ∙ no-name-told c.args.job.now _ c.in-Err.ensures
