-- The high bits with the flag, then the low byte.
use mir.Facts.{to_z-of_z}
use Rattle.rules.specs.Pec.{wide}
use Rattle.laws.specs.Buffers.{put_as}
use Rattle.pec_cmd.proofs.put_wide.Goals as goal

pub returns : goal.returns
unfolding wide
returns c =
    let e = c.low12-v.ensures.0 in
    put_as c.put2.ensures (rw (e, to_z-of_z c.ranges.z))
