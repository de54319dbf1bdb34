-- Turn by turn, by `Going`.
use mathlib.Core.Path.{sym}
use native.Mathlib.Omega.{arith}
use Rattle.read_passes.proofs.Loops.{going_start, going_on, going-ended}
use Rattle.read_fill.proofs.steps.fill_steps.Goals as goal

pub last_turn-end-requires : goal.last_turn-end-requires
last_turn-end-requires c = omega arith

pub loop-at-init : goal.loop-at-init
loop-at-init c = going_start c.new-b.ensures c.requires

pub slice_bounds-turn_steps-end : goal.slice_bounds-turn_steps-end
slice_bounds-turn_steps-end c = sym c.pec_steps-steps.ensures.size

pub turn_steps-t-requires : goal.turn_steps-t-requires
turn_steps-t-requires c = let t = c.loop-at-test.true in
    record { pec_steps = c.pec_steps-steps.ensures; at_lt_end = t; by_index = c.last_turn-end.ensures; room = c.loop-at.invariant.ready }

pub loop-at-smaller : goal.loop-at-smaller
loop-at-smaller c =
    let h = c.last_turn-end.ensures c.loop-at.at c.loop-at-test.true in
    omega (arith, c.turn_steps-t.ensures.later)

pub loop-at-preserved : goal.loop-at-preserved
loop-at-preserved c =
    going_on c.loop-at.invariant c.turn_steps-t.ensures.went

pub fill_rest-requires : goal.fill_rest-requires
fill_rest-requires c = c.loop-at.invariant.ready

pub returns : goal.returns
returns c =
    going-ended c.loop-at.invariant c.fill_rest.ensures
