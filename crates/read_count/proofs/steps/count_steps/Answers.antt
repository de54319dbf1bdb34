-- One turn after the other, by `Tallying`; then the rest.
use native.Mathlib.Omega.{arith}
use Rattle.read_count.proofs.Laws.{tallying-start}
use Rattle.read_count.proofs.steps.count_steps.Goals as goal

pub last_turn-end-requires : goal.last_turn-end-requires
last_turn-end-requires c = omega arith

pub loop-at-init : goal.loop-at-init
loop-at-init c = rw c.none-t.ensures (tallying-start c.requires)

pub pass_steps-p-requires : goal.pass_steps-p-requires
pass_steps-p-requires c = record { at_lt_end = c.loop-at-test.true; by_index = c.last_turn-end.ensures; tallying = c.loop-at.invariant }

pub loop-at-smaller : goal.loop-at-smaller
loop-at-smaller c =
    omega (arith, c.pass_steps-p.ensures.at_lt_at, c.last_turn-end.ensures c.loop-at.at c.loop-at-test.true)

pub loop-at-preserved : goal.loop-at-preserved
loop-at-preserved c = c.pass_steps-p.ensures.tallying_2

pub count_rest-requires : goal.count_rest-requires
count_rest-requires c = c.loop-at.invariant

pub returns : goal.returns
returns c = c.count_rest.ensures
