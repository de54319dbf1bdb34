-- What is gathered tells the commands before i, and what is left the others, from the place before.
use mathlib.Core.Path.{refl}
use native.Mathlib.Omega.{arith}
use Rattle.rules.specs.Lists.{any_from}
use Rattle.rules.specs.Refusals.{moves, moved}
use Rattle.write_refusals.proofs.Walk.{held, one_more, one_end}
use Rattle.write_refusals.proofs.moved.Goals as goal

pub loop-i-init : goal.loop-i-init
unfolding any_from moved
loop-i-init c = (held c.list_len-n.ensures, record { told = refl })

pub offset_bounds-xs-i : goal.offset_bounds-xs-i
offset_bounds-xs-i c = omega arith

pub bounds-xs-i : goal.bounds-xs-i
bounds-xs-i c = omega arith

pub offset_bounds-ys-i : goal.offset_bounds-ys-i
offset_bounds-ys-i c = omega arith

pub bounds-ys-i : goal.bounds-ys-i
bounds-ys-i c = omega arith

pub bounds-kinds-i : goal.bounds-kinds-i
bounds-kinds-i c = omega arith

pub loop-i-preserved : goal.loop-i-preserved
unfolding any_from moves
loop-i-preserved c =
    let inv = c.loop-i.invariant in (
      inv.0,
      one_more inv.0 inv.1 _ c.loop-i-test.true c.nx-1.given
          c.ny-1.given (λ rest. rw c.moves-bad.ensures),
    )

pub returns : goal.returns
unfolding any_from moved
returns c = one_end c.loop-i.invariant.0 c.loop-i.invariant.1 c.loop-i-test.false refl
