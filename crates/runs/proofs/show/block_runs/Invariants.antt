-- `block_runs` stays within the buffer and the places. Assumes nothing.
use Rattle.std.proofs.Common.{◌≤◌, length}
use Rattle.runs.proofs.show.block_runs.Given as goal

abbrev pub invariant-loop-n : goal.invariant-loop-n
invariant-loop-n l = (l.next.at ≤ 65536) × (l.next.cell ≤ length l.places)
