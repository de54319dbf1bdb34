-- Four puts in a row are one.
use native.Mathlib.Omega.{arith}
use mir.Facts.{to_z-of_z}
use Rattle.rules.specs.Vp3.{big}
use Rattle.laws.specs.Buffers.{put-put}
use Rattle.vp3_cmd.proofs.put_long.Goals as goal

pub put_be16-end-requires : goal.put_be16-end-requires
unfolding big
put_be16-end-requires c = omega (arith, c)

pub put2-requires : goal.put2-requires
unfolding big
put2-requires c = omega (arith, c)

pub returns : goal.returns
returns c =
    put-put (put-put (put-put c.put2-x.ensures
    (rw (c.low16.ensures, to_z-of_z c.ranges.dx) at c.put_be16-y.ensures))
    (rw (c.low16-2.ensures, to_z-of_z c.ranges.dy) at c.put_be16-end.ensures))
    c.put2.ensures
