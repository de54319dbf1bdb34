-- A jump in JEF, a stitch in EXP.
use mir.Facts.{to_z-of_z}
use Rattle.rules.specs.Exp.{two}
use Rattle.read_records.proofs.pair.second.Goals as goal

pub returns-then-jef : goal.returns-then-jef
unfolding two
returns-then-jef c = simp (c.if-jef.true, to_z-of_z c.ranges.dx, to_z-of_z c.ranges.dy)

pub returns : goal.returns
unfolding two
returns c = simp (c.if-jef.false, to_z-of_z c.ranges.dx, to_z-of_z c.ranges.dy)
