-- A step is within the limits where both axes are.
use mir.Facts.{to_z-of_z}
use Rattle.write_refusals.proofs.is_step_in.Goals as goal

pub returns : goal.returns
returns c = let f = c.ranges in
    simp (c.is_between.ensures, c.is_between-2.ensures, to_z-of_z f.lo, to_z-of_z f.hi, to_z-of_z f.dx, to_z-of_z f.dy)
