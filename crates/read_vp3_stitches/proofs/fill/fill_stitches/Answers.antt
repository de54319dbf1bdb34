-- One turn after the other, by `Going`; then the rest.
use native.Mathlib.Omega.{arith}
use Rattle.read_vp3_stitches.proofs.Filling.{going_start, going_on, turned-going, going-filled}
use Rattle.read_vp3_stitches.proofs.fill.fill_stitches.Goals as goal

pub last_turn-end-requires : goal.last_turn-end-requires
last_turn-end-requires c = omega arith

pub loop-at-init : goal.loop-at-init
loop-at-init c = going_start c.requires

pub fill_pair-t-requires : goal.fill_pair-t-requires
fill_pair-t-requires c = record { ready = c.loop-at.invariant.ready; at_in_bounds = c.last_turn-end.ensures c.loop-at.at c.loop-at-test.true }

pub loop-at-smaller : goal.loop-at-smaller
loop-at-smaller c =
    let h = c.last_turn-end.ensures c.loop-at.at c.loop-at-test.true in
    omega (arith, c.fill_pair-t.ensures.later (omega arith), h)

pub loop-at-preserved : goal.loop-at-preserved
loop-at-preserved c =
    going_on c.loop-at.invariant (turned-going c.fill_pair-t.ensures)

pub fill_rest-requires : goal.fill_rest-requires
fill_rest-requires c = c.loop-at.invariant.ready

pub shape_of-places : goal.shape_of-places
shape_of-places c = omega (arith, c.fill_rest.auto, c.loop-at.invariant)

pub shape_of-runs : goal.shape_of-runs
shape_of-runs c = omega (arith, c.fill_rest.auto, c.loop-at.invariant)

pub returns : goal.returns
returns c = going-filled c.loop-at.invariant c.fill_rest.ensures
