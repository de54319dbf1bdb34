-- One record after the other, by `Tallying`.
use native.Mathlib.Omega.{arith}
use Rattle.read_count.proofs.Laws.{tallying-small, change-small, tallying-done}
use Rattle.read_count.proofs.tally.count_rest.Goals as goal

pub loop-at-init : goal.loop-at-init
loop-at-init c = c.requires

pub pass-p-requires : goal.pass-p-requires
pass-p-requires c = record { tallying = c.loop-at.invariant; at_in_bounds = c.loop-at-test.true }

pub loop-at-smaller : goal.loop-at-smaller
loop-at-smaller c = omega (arith, c.pass-p.ensures.at_lt_at, c.loop-at-test.true)

pub loop-at-preserved : goal.loop-at-preserved
loop-at-preserved c = c.pass-p.ensures.tallying_2

pub tally_change-requires : goal.tally_change-requires
tally_change-requires c = tallying-small c.loop-at.invariant

pub sizes-requires : goal.sizes-requires
sizes-requires c = rw c.tally_change.ensures (change-small c.loop-at.invariant)

pub returns : goal.returns
returns c = let k = rw c.tally_change.ensures at c.sizes.ensures in
    tallying-done c.loop-at.invariant c.loop-at-test.false k.0 k.1 k.2
