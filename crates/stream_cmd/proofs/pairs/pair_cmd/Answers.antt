-- Each of the two formats writes its own.
use mir.Facts.{to_z-of_z}
use Rattle.stream_cmd.proofs.pairs.pair_cmd.Goals as goal

pub jef_cmd-requires : goal.jef_cmd-requires
jef_cmd-requires c = rw (to_z-of_z c.ranges.dx, to_z-of_z c.ranges.dy) (rw c.if-jef.true at c.requires)

pub returns-then-jef : goal.returns-then-jef
returns-then-jef c = let f = c.ranges in
    rw c.if-jef.true (rw (to_z-of_z f.dx, to_z-of_z f.dy) at c.jef_cmd.ensures)

pub exp_cmd-requires : goal.exp_cmd-requires
exp_cmd-requires c = rw (to_z-of_z c.ranges.dx, to_z-of_z c.ranges.dy) (rw c.if-jef.false at c.requires)

pub returns : goal.returns
returns c = let f = c.ranges in
    rw c.if-jef.false (rw (to_z-of_z f.dx, to_z-of_z f.dy) at c.exp_cmd.ensures)
