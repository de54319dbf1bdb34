-- The two distances, one after the other.
use native.Mathlib.Omega.{arith}
use Rattle.rules.specs.Vocabulary.{little}
use Rattle.rules.specs.Pes.{pes_point}
use Rattle.laws.specs.Buffers.{put-put, put_as}
use Rattle.pes_section_cmd.proofs.Distances.{diff-fits, diff_is}
use Rattle.pes_section_cmd.proofs.put_point.Goals as goal

pub overflow_sub-x : goal.overflow_sub-x
overflow_sub-x c = diff-fits c.ranges.x c.ranges.left c.requires.near.across

pub low16-requires : goal.low16-requires
unfolding little
low16-requires c = rw (diff_is c.ranges.x c.ranges.left c.requires.near.across) c.requires.near.across

pub overflow_sub-y : goal.overflow_sub-y
overflow_sub-y c = diff-fits c.ranges.y c.ranges.bottom c.requires.near.up

pub low16-requires-2 : goal.low16-requires-2
unfolding little
low16-requires-2 c = rw (diff_is c.ranges.y c.ranges.bottom c.requires.near.up) c.requires.near.up

pub put_short-requires : goal.put_short-requires
unfolding little
put_short-requires c = omega arith

pub returns : goal.returns
unfolding pes_point
returns c =
    let across = rw (diff_is c.ranges.x c.ranges.left c.requires.near.across) at c.low16.ensures in
    let up = rw (diff_is c.ranges.y c.ranges.bottom c.requires.near.up) at c.low16-2.ensures in
    put_as (put-put c.put_short-up.ensures c.put_short.ensures) (rw (across, up))
