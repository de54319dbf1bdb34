-- What is gathered tells the kinds before i, and what is left the others.
use lib.Dec.{ltb}
use Rattle.rules.specs.Vocabulary.{any}
use Rattle.write_refusals.proofs.Walk.{Told}
use Rattle.write_refusals.proofs.kind_over.Given as goal

abbrev pub invariant-loop-kind : goal.invariant-loop-kind
invariant-loop-kind l = Told (any (ltb 4) l.kinds) (any (ltb 4)) l.kinds l.bad l.kind-index
