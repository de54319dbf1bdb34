-- `judged` is safe. Assumes nothing.
use lib.ListN.{length-take}
use native.Mathlib.Omega.{arith}
use Rattle.replay_writes.proofs.verdicts.judged.Goals as goal

pub slice_bounds-agrees-end-2 : goal.slice_bounds-agrees-end-2
slice_bounds-agrees-end-2 c = simp length-take (omega arith)

pub slice_bounds-agrees-end-4 : goal.slice_bounds-agrees-end-4
slice_bounds-agrees-end-4 c = simp length-take (omega arith)

pub slice_bounds-agrees-end-6 : goal.slice_bounds-agrees-end-6
slice_bounds-agrees-end-6 c = simp length-take (omega arith)
