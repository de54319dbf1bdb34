-- The four bytes of the bits.
use Rattle.rules.specs.Vp3.{field, hundred}
use mir.Facts.{to_z-of_z}
use Rattle.vp3_cmd.proofs.put_hundred.Goals as goal

pub returns : goal.returns
unfolding hundred field
returns c =
    rw (c.hundred_bits.ensures, to_z-of_z c.ranges.z) at c.put_be32.ensures
