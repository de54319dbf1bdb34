-- One step after the other, by `Counts`.
use native.Mathlib.Omega.{arith}
use Rattle.read_vp3_stitches.proofs.Counting.{counts-none, counts-on, counts-done}
use Rattle.read_vp3_stitches.proofs.count.count_rest.Goals as goal

pub loop-at-init : goal.loop-at-init
loop-at-init c = counts-none c.requires.0 c.requires.1

pub count_step-p-requires : goal.count_step-p-requires
count_step-p-requires c = let g = c.loop-at.invariant in (g.inside, g.spare)

pub loop-at-smaller : goal.loop-at-smaller
loop-at-smaller c = let l = c.loop-at-test.true in
    omega (arith, c.count_step-p.ensures.at_lt_at l, l)

pub loop-at-preserved : goal.loop-at-preserved
loop-at-preserved c = counts-on c.loop-at.invariant c.count_step-p.ensures.counts

pub returns : goal.returns
returns c = counts-done c.loop-at.invariant c.loop-at-test.false
