-- One field after the other, by `Filling`.
use Rattle.import_job.proofs.Filled.{filling-start, filling-on, filling-done}
use Rattle.import_job.proofs.fill.fill_job.Goals as goal

pub loop-f-init : goal.loop-f-init
loop-f-init c = filling-start _ _ _ _ _ c.requires.job_value c.requires.fits

pub loop-f-preserved : goal.loop-f-preserved
loop-f-preserved c =
    filling-on c.loop-f.invariant c.fill_field-f.ensures

pub returns : goal.returns
returns c = filling-done c.loop-f.invariant c.loop-f-test.false
