-- `replay` is safe: each case leaves the buffers as long as they were. Assumes nothing.
use mathlib.Core.Path.{◌≡◌}
use lib.ListN.{length}
use Rattle.replay_writes.specs.Room.{Roomy}
use Rattle.replay_writes.proofs.replay.Given as goal

abbrev pub invariant-loop : goal.invariant-loop
invariant-loop g l = (65536 ≡ length l.case) × Roomy l.xs l.ys l.kinds l.out
