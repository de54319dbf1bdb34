-- One turn after the other, by `Tallying`; then the rest.
use native.Mathlib.Omega.{arith}
use mathlib.Core.Path.{sym}
use Rattle.read_count.proofs.Laws.{tallying-start}
use Rattle.read_count.proofs.pairs.count_pairs.Goals as goal

pub last_turn-end-requires : goal.last_turn-end-requires
last_turn-end-requires c = omega arith

pub loop-at-init : goal.loop-at-init
loop-at-init c = rw c.none-t.ensures (tallying-start c.requires)

pub slice_bounds-pass_pair-end : goal.slice_bounds-pass_pair-end
slice_bounds-pass_pair-end c = sym c.kinds-table.ensures.long

pub pass_pair-p-requires : goal.pass_pair-p-requires
pass_pair-p-requires c = record { at_in_bounds = c.last_turn-end.ensures c.loop-at.at c.loop-at-test.true; kinds = c.kinds-table.ensures; tallying = c.loop-at.invariant }

pub loop-at-smaller : goal.loop-at-smaller
loop-at-smaller c =
    omega (arith, c.pass_pair-p.ensures.at_lt_at, c.last_turn-end.ensures c.loop-at.at c.loop-at-test.true)

pub loop-at-preserved : goal.loop-at-preserved
loop-at-preserved c = c.pass_pair-p.ensures.tallying_2

pub count_rest-requires : goal.count_rest-requires
count_rest-requires c = rw c.row_of.ensures c.loop-at.invariant

pub returns : goal.returns
returns c = rw c.row_of.ensures at c.count_rest.ensures
