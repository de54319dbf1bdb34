-- One block after the other, by `Going`.
use Rattle.std.proofs.Common.{arith}
use Rattle.hoop_vp3.proofs.Blockwise.{going_done}
use Rattle.hoop_vp3.proofs.fits_blocks.Goals as goal

pub returns : goal.returns
returns c = going_done _ _ _ c.loop-n.invariant (omega arith)
