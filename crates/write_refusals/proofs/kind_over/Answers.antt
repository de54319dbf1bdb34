-- What is gathered tells the kinds before i, and what is left the others.
use mathlib.Core.Path.{refl}
use Rattle.rules.specs.Vocabulary.{any}
use Rattle.write_refusals.proofs.Walk.{told_more, told-end}
use Rattle.write_refusals.proofs.kind_over.Goals as goal

pub loop-kind-init : goal.loop-kind-init
unfolding any
loop-kind-init c = record { told = refl }

pub loop-kind-preserved : goal.loop-kind-preserved
unfolding any
loop-kind-preserved c = told_more c.loop-kind.invariant 0 _ c.loop-kind-test.true (λ rest. refl)

pub returns : goal.returns
unfolding any
returns c = told-end c.loop-kind.invariant c.loop-kind-test.false refl
