-- One column less is left.
use Rattle.laws.specs.Buffers.{Writing}
use Rattle.rules.specs.Vocabulary.{right}
use Rattle.emit.proofs.put_right.Given as goal

abbrev pub invariant-loop-k : goal.invariant-loop-k
invariant-loop-k l = Writing l.initial.out l.at (right l.n l.v) l.out l.to (right l.k l.v)
