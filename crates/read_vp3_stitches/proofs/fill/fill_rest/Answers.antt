-- One step after the other, by `Going`.
use native.Mathlib.Omega.{arith}
use Rattle.read_vp3_stitches.proofs.Filling.{going_start, going_on, turned-going, going_done}
use Rattle.read_vp3_stitches.proofs.fill.fill_rest.Goals as goal

pub loop-at-init : goal.loop-at-init
loop-at-init c = going_start c.requires

pub fill_step-t-requires : goal.fill_step-t-requires
fill_step-t-requires c = c.loop-at.invariant.ready

pub loop-at-smaller : goal.loop-at-smaller
loop-at-smaller c =
    let l = c.loop-at-test.true in
    omega (arith, c.fill_step-t.ensures.later l, l)

pub loop-at-preserved : goal.loop-at-preserved
loop-at-preserved c =
    going_on c.loop-at.invariant (turned-going c.fill_step-t.ensures)

pub shape_of-places : goal.shape_of-places
shape_of-places c = c.loop-at.invariant.same_places

pub shape_of-runs : goal.shape_of-runs
shape_of-runs c = c.loop-at.invariant.same_runs

pub returns : goal.returns
returns c = going_done c.loop-at.invariant c.loop-at-test.false
