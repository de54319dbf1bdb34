-- A command moves where its operation stands and its place is another.
use mir.Facts.{to_z-of_z}
use Rattle.write_refusals.proofs.moves.Goals as goal

pub returns : goal.returns
returns c = let f = c.ranges in
    simp (c.is_standing.ensures, c.is_same_place.ensures, to_z-of_z f.x0, to_z-of_z f.y0, to_z-of_z f.x, to_z-of_z f.y)
