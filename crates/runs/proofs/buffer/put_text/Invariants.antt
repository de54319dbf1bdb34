-- `put_text` stays within the buffer. Assumes nothing.
use Rattle.std.proofs.Common.{◌≤◌}
use Rattle.runs.proofs.buffer.put_text.Given as goal

abbrev pub invariant-loop-b : goal.invariant-loop-b
invariant-loop-b l = l.to ≤ 65536
