-- One step after the other, by `Going`.
use mir.Facts.{to_z-of_z}
use Rattle.read_vp3_stitches.proofs.Following.{going_done}
use Rattle.read_vp3_stitches.proofs.follow.follow_stitches.Goals as goal

pub returns : goal.returns
returns c =
    let f = c.ranges in
    rw (to_z-of_z f.x, to_z-of_z f.y) at (going_done c.loop-w.invariant c.loop-w-test.false)
