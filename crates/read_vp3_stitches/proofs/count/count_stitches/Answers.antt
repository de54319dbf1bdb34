-- One turn after the other, by `Counts`; then the rest.
use mathlib.Core.Path.{sym, ◌∙◌}
use native.Mathlib.Omega.{arith}
use Rattle.read_vp3_stitches.proofs.Counting.{counts_start, counts-on}
use Rattle.read_vp3_stitches.proofs.count.count_stitches.Goals as goal

pub last_turn-end-requires : goal.last_turn-end-requires
last_turn-end-requires c = omega arith

pub loop-at-init : goal.loop-at-init
loop-at-init c = counts_start c.requires

pub count_pair-p-requires : goal.count_pair-p-requires
count_pair-p-requires c = (c.last_turn-end.ensures c.loop-at.at c.loop-at-test.true, c.loop-at.invariant.spare)

pub loop-at-smaller : goal.loop-at-smaller
loop-at-smaller c =
    omega (arith, c.count_pair-p.ensures.at_lt_at, c.last_turn-end.ensures c.loop-at.at c.loop-at-test.true)

pub loop-at-preserved : goal.loop-at-preserved
loop-at-preserved c = counts-on c.loop-at.invariant c.count_pair-p.ensures.counts

pub count_rest-requires : goal.count_rest-requires
count_rest-requires c = let g = c.loop-at.invariant in (g.inside, g.spare)

pub returns : goal.returns
returns c = c.count_rest.ensures ∙ sym c.loop-at.invariant.tells
