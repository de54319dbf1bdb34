-- One turn after the other, by `Going`; then the rest.
use mathlib.Core.Path.{sym, ◌∙◌}
use native.Mathlib.Omega.{arith}
use Rattle.read_records.specs.declared.Row.TheVariants.{Pec}
use Rattle.hoop_records.proofs.Events.{going_start, going_on, going-out, going-rest}
use Rattle.hoop_records.proofs.Turns.{front-looking, front-all}
use Rattle.hoop_records.proofs.steps.fits_steps.Goals as goal

pub last_turn-end-requires : goal.last_turn-end-requires
last_turn-end-requires c = omega arith

pub loop-w-init : goal.loop-w-init
loop-w-init c =
    going_start (front-looking Pec c.args.h _ c.look_from-w.ensures c.requires)

pub slice_bounds-look_steps-end : goal.slice_bounds-look_steps-end
slice_bounds-look_steps-end c = sym c.pec_steps-steps.ensures.size

pub look_steps-requires : goal.look_steps-requires
look_steps-requires c = record { pec_steps = c.pec_steps-steps.ensures; at_in_bounds = c.last_turn-end.ensures c.loop-w.w.at c.loop-w-test.true; looking = c.loop-w.invariant.looking }

pub returns-in_default : goal.returns-in_default
returns-in_default c =
    going-out c.loop-w.invariant (rw c.in_default.is at c.look_steps.ensures) ∙ front-all _ _ _ c.look_from-w.ensures

pub loop-w-smaller : goal.loop-w-smaller
loop-w-smaller c =
    omega (arith, (rw c.in-Some.is at c.look_steps.ensures).onward.1, c.last_turn-end.ensures c.loop-w.w.at c.loop-w-test.true)

pub loop-w-preserved : goal.loop-w-preserved
loop-w-preserved c =
    let k = (rw c.in-Some.is at c.look_steps.ensures) in going_on c.loop-w.invariant k k.onward.0

pub fits_rest-requires : goal.fits_rest-requires
fits_rest-requires c = c.loop-w.invariant.looking

pub returns : goal.returns
returns c =
    going-rest c.loop-w.invariant c.fits_rest.ensures ∙ front-all _ _ _ c.look_from-w.ensures
