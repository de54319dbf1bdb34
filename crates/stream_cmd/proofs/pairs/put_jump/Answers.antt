-- The control and the two bytes of the step.
use mir.Facts.{to_z-of_z}
use Rattle.rules.specs.Exp.{pair_of}
use Rattle.laws.specs.Buffers.{put_as}
use Rattle.stream_cmd.proofs.pairs.put_jump.Goals as goal

pub returns : goal.returns
unfolding pair_of
returns c = let f = c.ranges in
    put_as c.put4.ensures (cc (c.low_byte.ensures, to_z-of_z f.dx, to_z-of_z f.dy))
