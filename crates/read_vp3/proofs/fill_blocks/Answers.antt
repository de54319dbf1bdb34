-- One block after the other, by `Going`.
use Rattle.std.proofs.Common.{arith}
use Rattle.read_vp3.proofs.Blockwise.{going_start, going_done}
use Rattle.read_vp3.proofs.fill_blocks.Goals as goal

pub loop-n-init : goal.loop-n-init
loop-n-init c = going_start _ _ _ _ c.new.ensures c.requires.from_le_end c.requires.end_value c.requires.fits

pub returns : goal.returns
returns c = going_done _ _ _ c.loop-n.invariant (omega arith)
