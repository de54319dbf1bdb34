-- From each place passed the next colour change is the same.
use mathlib.Core.Path.{◌≡◌, refl, sym, ap, ◌∙◌}
use native.Mathlib.Omega.{arith}
use Rattle.rules.specs.Lists.{is_change}
use Rattle.laws.specs.Listing.{length-commands}
use Rattle.thumbnails.proofs.Ends.{change-here, change-later, change-none}
use Rattle.thumbnails.proofs.block_end.Goals as goal

pub loop-i-init : goal.loop-i-init
loop-i-init c = (c.list_len-n.ensures, (omega arith, refl))

pub bounds-kinds-i : goal.bounds-kinds-i
bounds-kinds-i c = let a = c.args in
    omega (arith, length-commands a.xs.now a.ys.now a.kinds.now)

pub returns-then-is_change : goal.returns-then-is_change
returns-then-is_change c = let loop = c.loop-i in
    let a = c.args in
    let t = sym (c.is_change.ensures ∙ ap is_change c.op_of.ensures) ∙ c.if-is_change.true in
    sym (change-here a.xs.now a.ys.now a.kinds.now loop.i (omega arith) t) ∙ loop.invariant.1.1

pub loop-i-preserved : goal.loop-i-preserved
loop-i-preserved c = let loop = c.loop-i in
    let a = c.args in
    let t = sym (c.is_change.ensures ∙ ap is_change c.op_of.ensures) ∙ c.if-is_change.false in
    (loop.invariant.0, (omega arith, sym (change-later a.xs.now a.ys.now a.kinds.now loop.i (omega arith) t) ∙ loop.invariant.1.1))

pub returns : goal.returns
returns c = let a = c.args in
    let e : c.list_len-n.result ≡ c.loop-i.i = omega arith in
    e ∙ sym (change-none a.xs.now a.ys.now a.kinds.now c.loop-i.i (omega arith)) ∙ c.loop-i.invariant.1.1
