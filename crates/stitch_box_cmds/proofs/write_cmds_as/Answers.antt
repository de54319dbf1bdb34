-- What the three calls say, together.
use Rattle.std.proofs.Common.{arith}
use Rattle.stitch_box_cmds.proofs.Told.{told}
use Rattle.stitch_box_cmds.proofs.write_cmds_as.Goals as goal

pub returns : goal.returns
returns c = told _ _ _ _ _ _ _ _ _ _ _ _ _ _ (omega (arith, c.fitting-m.ensures), omega (arith, c.fitting-m.ensures), omega (arith, c.fitting-m.ensures)) c.unpack.ensures c.fitting-m.ensures c.write_front.ensures
