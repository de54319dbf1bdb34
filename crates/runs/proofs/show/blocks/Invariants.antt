-- `blocks` stays within the buffer, the places and the runs. Assumes nothing.
use Rattle.std.proofs.Common.{◌≤◌, length}
use Rattle.runs.proofs.show.blocks.Given as goal

abbrev pub invariant-loop-b : goal.invariant-loop-b
invariant-loop-b l = (l.next.at ≤ 65536) × (l.next.cell ≤ length l.places) × (l.next.run ≤ length l.runs)
