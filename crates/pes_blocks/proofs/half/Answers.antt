-- The cast and the product are exact.
use mir.Facts.{to_z-of_z}
use Rattle.pes_blocks.proofs.Values.{product_is, casts}
use Rattle.pes_blocks.proofs.half.Goals as goal

pub int_to_float-result : goal.int_to_float-result
int_to_float-result c = rw (to_z-of_z c.ranges.z) (casts c.args.z c.requires)

pub returns : goal.returns
returns c = rw (to_z-of_z c.ranges.z) (product_is c.args.z c.requires)
