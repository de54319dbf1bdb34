-- `agrees` is safe. Assumes nothing.
use lib.ListN.{length-take}
use native.Mathlib.Omega.{arith}
use Rattle.replay_writes.proofs.verdicts.agrees.Goals as goal

pub slice_bounds-writes_same-end-2 : goal.slice_bounds-writes_same-end-2
slice_bounds-writes_same-end-2 c = simp length-take (omega arith)

pub writes_same-requires : goal.writes_same-requires
writes_same-requires c = simp length-take (omega arith)

pub slice_bounds-writes_same-end-4 : goal.slice_bounds-writes_same-end-4
slice_bounds-writes_same-end-4 c = simp length-take (omega arith)

pub writes_same-requires-2 : goal.writes_same-requires-2
writes_same-requires-2 c = simp length-take (omega arith)

pub slice_bounds-refuses-end-2 : goal.slice_bounds-refuses-end-2
slice_bounds-refuses-end-2 c = simp length-take (omega arith)
