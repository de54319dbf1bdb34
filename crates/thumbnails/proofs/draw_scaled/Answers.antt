-- The commands left, drawn on the picture so far, are all of them on a blank one.
use mathlib.Core.Path.{refl, sym, ◌∙◌}
use native.Mathlib.Omega.{arith}
use mir.Syntax.{w32}
use Rattle.laws.specs.Ints.{ret}
use Rattle.laws.specs.Listing.{length-commands}
use Rattle.laws.specs.Lengths.{blank-length}
use Rattle.thumbnails.proofs.Sizes.{marked-is}
use Rattle.thumbnails.proofs.Turns.{next-mark, no-mark}
use Rattle.thumbnails.proofs.Cells.{seen_none}
use Rattle.thumbnails.proofs.draw_scaled.Goals as goal

pub loop-i-init : goal.loop-i-init
loop-i-init c = (c.requires.0, rw c.pec_icon_blank-icon.ensures (blank-length, (refl, seen_none _ c.no_cell-last.ensures)))

pub slice_bounds-mark-end : goal.slice_bounds-mark-end
slice_bounds-mark-end c = sym c.loop-i.invariant.1.0

pub bounds-kinds-i : goal.bounds-kinds-i
bounds-kinds-i c = let a = c.args in
    omega (arith, length-commands a.xs.now a.ys.now a.kinds.now)

pub offset_bounds-xs-i : goal.offset_bounds-xs-i
offset_bounds-xs-i c = let a = c.args in
    omega (arith, length-commands a.xs.now a.ys.now a.kinds.now)

pub bounds-xs-i : goal.bounds-xs-i
bounds-xs-i c = let a = c.args in
    omega (arith, length-commands a.xs.now a.ys.now a.kinds.now)

pub offset_bounds-ys-i : goal.offset_bounds-ys-i
offset_bounds-ys-i c = let a = c.args in
    omega (arith, length-commands a.xs.now a.ys.now a.kinds.now)

pub bounds-ys-i : goal.bounds-ys-i
bounds-ys-i c = let a = c.args in
    omega (arith, length-commands a.xs.now a.ys.now a.kinds.now)

pub mark-next-requires : goal.mark-next-requires
mark-next-requires c = (c.loop-i.invariant.1.0, c.loop-i.invariant.1.1.1)

pub loop-i-preserved : goal.loop-i-preserved
loop-i-preserved c = let mark-arg = c.mark-arg-1 in let op-of = c.op_of in
    let loop-test = c.loop-i-test in
    let loop = c.loop-i in
    let a = c.args in
    let e = next-mark a.s loop.icon a.xs.now a.ys.now a.kinds.now loop.i a.to loop-test.true c.requires.1
    op-of.ensures (ret w32 _ mark-arg.given) (ret w32 _ c.mark-arg-in-loop-i-1.given) c.mark-next.ensures.0 in
    (omega arith, (marked-is a.s loop.icon _ _ _ loop.invariant.1.0 c.mark-next.ensures.0, (sym e ∙ loop.invariant.1.1.0, c.mark-next.ensures.1)))

pub returns : goal.returns
returns c =
    let a = c.args in
    sym (no-mark a.s c.loop-i.icon a.xs.now a.ys.now a.kinds.now c.loop-i.i a.to (omega arith)) ∙ c.loop-i.invariant.1.1.0
