-- `blocks_same` is safe. Assumes nothing.
use lib.ListN.{length-take}
use native.Mathlib.Omega.{arith}
use Rattle.replay_reads.proofs.verdicts.blocks_same.Goals as goal

pub slice_bounds-walked-end : goal.slice_bounds-walked-end
slice_bounds-walked-end c = simp length-take (omega arith)
