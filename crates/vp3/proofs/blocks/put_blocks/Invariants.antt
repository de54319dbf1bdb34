-- What is written is as far as the place; what comes is what the blocks left take.
use Rattle.rules.specs.Lists.{threads_of}
use Rattle.vp3.proofs.Layings.{Laying}
use Rattle.vp3.proofs.blocks.put_blocks.Given as goal

abbrev pub invariant-loop-k : goal.invariant-loop-k
invariant-loop-k l =
    Laying l.xs l.ys l.kinds (threads_of l.threads) l.m l.n l.ends l.lens l.initial.out l.at l.out l.to l.from l.k l.x l.y
