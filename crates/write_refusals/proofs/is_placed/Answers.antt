-- A place is in range where both axes are.
use mir.Facts.{to_z-of_z}
use Rattle.rules.specs.Lists.{placed}
use Rattle.write_refusals.proofs.is_placed.Goals as goal

pub returns : goal.returns
unfolding placed
returns c = let f = c.ranges in
    simp (c.is_between.ensures, c.is_between-2.ensures, to_z-of_z f.x, to_z-of_z f.y)
