-- One step after the other, by `Going`.
use Rattle.hoop_vp3.proofs.Steps.{at-end}
use Rattle.hoop_vp3.proofs.fits_rest.Goals as goal

pub returns : goal.returns
returns c = at-end _ _ c.loop-w.invariant c.loop-w-test.false
