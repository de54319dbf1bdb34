-- Turn by turn, by `Going`.
use mathlib.Core.Path.{sym}
use native.Mathlib.Omega.{arith}
use Rattle.read_passes.proofs.Loops.{going_start, going_on, going-ended}
use Rattle.read_fill.proofs.pairs.fill_pairs.Goals as goal

pub last_turn-end-requires : goal.last_turn-end-requires
last_turn-end-requires c = omega arith

pub loop-at-init : goal.loop-at-init
loop-at-init c = going_start c.new-b.ensures c.requires

pub slice_bounds-turn_pair-end : goal.slice_bounds-turn_pair-end
slice_bounds-turn_pair-end c = sym c.kinds-table.ensures.long

pub turn_pair-t-requires : goal.turn_pair-t-requires
turn_pair-t-requires c = let h = c.last_turn-end.ensures c.loop-at.at c.loop-at-test.true in
    record { kinds = c.kinds-table.ensures; at_in_bounds = h; room = c.loop-at.invariant.ready }

pub loop-at-smaller : goal.loop-at-smaller
loop-at-smaller c =
    let h = c.last_turn-end.ensures c.loop-at.at c.loop-at-test.true in
    omega (arith, c.turn_pair-t.ensures.later)

pub loop-at-preserved : goal.loop-at-preserved
loop-at-preserved c =
    going_on c.loop-at.invariant c.turn_pair-t.ensures.went

pub fill_rest-requires : goal.fill_rest-requires
fill_rest-requires c = rw c.row_of.ensures c.loop-at.invariant.ready

pub returns : goal.returns
returns c =
    going-ended c.loop-at.invariant (rw c.row_of.ensures at c.fill_rest.ensures)
