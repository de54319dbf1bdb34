-- Two places are one where both axes agree.
use mir.Facts.{to_z-of_z}
use Rattle.rules.specs.Lists.{same_place}
use Rattle.write_refusals.proofs.is_same_place.Goals as goal

pub returns : goal.returns
unfolding same_place
returns c = let f = c.ranges in
    simp (c.is_same.ensures, c.is_same-2.ensures, to_z-of_z f.x0, to_z-of_z f.y0, to_z-of_z f.x, to_z-of_z f.y)
