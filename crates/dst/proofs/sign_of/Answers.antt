-- By the test of the sign.
use mir.Facts.{to_z-of_z}
use Rattle.dst.proofs.Wide.{below-sign, above-sign}
use Rattle.dst.proofs.sign_of.Goals as goal

pub returns-then-z-lt0 : goal.returns-then-z-lt0
returns-then-z-lt0 c = rw (below-sign c.args.z (rw (to_z-of_z c.ranges.z) at c.if-z-lt0.true))

pub returns : goal.returns
returns c = rw (above-sign c.args.z (rw (to_z-of_z c.ranges.z) at c.if-z-lt0.false))
