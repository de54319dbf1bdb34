-- The two steps with the flag, one after the other.
use mir.Facts.{to_z-of_z}
use Rattle.rules.specs.Pec.{wide, pec_cmd}
use Rattle.laws.specs.Buffers.{put-put, put_as}
use borrow.Author.Rules.{rules}
use Rattle.pec_cmd.proofs.put_jump.Goals as goal

pub flag-f-requires : goal.flag-f-requires
unfolding pec_cmd wide
flag-f-requires c = search rules

pub put_wide-y-requires : goal.put_wide-y-requires
unfolding pec_cmd wide
put_wide-y-requires c = search rules

pub put_wide-requires : goal.put_wide-requires
unfolding pec_cmd wide
put_wide-requires c = search rules

pub returns : goal.returns
unfolding pec_cmd
returns c =
    let both = put-put c.put_wide-y.ensures c.put_wide.ensures in
    put_as both (rw (c.flag-f.ensures.0, to_z-of_z c.ranges.dx, to_z-of_z c.ranges.dy))
