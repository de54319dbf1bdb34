-- One record after the other, by `Going`.
use native.Mathlib.Omega.{arith}
use Rattle.hoop_records.proofs.Events.{going_start, going_on, going-out}
use Rattle.hoop_records.proofs.Turns.{at-end}
use Rattle.hoop_records.proofs.rest.fits_rest.Goals as goal

pub loop-w-init : goal.loop-w-init
loop-w-init c = going_start c.requires

pub look_record-requires : goal.look_record-requires
look_record-requires c = record { at_in_bounds = c.loop-w-test.true; looking = c.loop-w.invariant.looking }

pub returns-in_default : goal.returns-in_default
returns-in_default c = going-out c.loop-w.invariant (rw c.in_default.is at c.look_record.ensures)

pub loop-w-smaller : goal.loop-w-smaller
loop-w-smaller c = omega (arith, (rw c.in-Some.is at c.look_record.ensures).onward.1, c.loop-w-test.true)

pub loop-w-preserved : goal.loop-w-preserved
loop-w-preserved c =
    let k = (rw c.in-Some.is at c.look_record.ensures) in going_on c.loop-w.invariant k k.onward.0

pub returns : goal.returns
returns c = at-end _ _ _ c.loop-w.invariant c.loop-w-test.false
