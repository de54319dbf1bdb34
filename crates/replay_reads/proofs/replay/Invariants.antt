-- `replay` is safe: each case leaves the buffers as long as they were. Assumes nothing.
use Rattle.replay_reads.specs.Room.{Roomy}
use Rattle.replay_reads.proofs.replay.Given as goal

abbrev pub invariant-loop : goal.invariant-loop
invariant-loop g l = Roomy l.case l.places l.runs l.blocks
