-- What is open is put, and the rest is the builder's.
use Rattle.read_passes.proofs.settle.Goals as goal

pub counts-requires : goal.counts-requires
counts-requires c = rw c.finish.ensures c.requires.b_bound
