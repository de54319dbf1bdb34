-- `near_bounds` meets its contract. The invariant: the four numbers hold the places before i. Assumes nothing.
use mathlib.Core.Path.{◌∙◌}
use lib.IntN.{pos}
use lib.ListN.{get_or}
use mir.Syntax.{w16, w32}
use mir.Val.{SFits, to_z}
use Rattle.rules.specs.Lists.{commands}
use mir.Facts.{to_z-of_z}
use Rattle.laws.specs.Ints.{ret}
use native.Mathlib.Omega.{arith}
use borrow.Author.Rules.{rules}
use Rattle.geom.proofs.Extremes.{least-is, greatest-is}
use Rattle.formats.proofs.Framing.{framed-start, framed-more, framed-done, no-bounds, near_fits, fits-back, wider}
use Rattle.formats.proofs.near_bounds.Goals as goal

pub returns-then-n-eq0 : goal.returns-then-n-eq0
returns-then-n-eq0 c = let a = c.args in
    let cs = commands a.xs.now a.ys.now a.kinds.now in
    let n = c.list_len-n.ensures in
    no-bounds cs (omega (arith, n)) c.add.ensures c.new.ensures c.empty.ensures

pub loop-i-init : goal.loop-i-init
loop-i-init c = record { left = search rules; top = search rules; right = search rules; bottom = search rules; framed = framed-start c.list_len-n.ensures }

pub offset_bounds-xs-i : goal.offset_bounds-xs-i
offset_bounds-xs-i c = omega (arith, c.well_formed)

pub bounds-xs-i : goal.bounds-xs-i
bounds-xs-i c = omega arith

pub overflow_cast-x : goal.overflow_cast-x
overflow_cast-x c = let a = c.args in rw (ret w32 _ c.x-1.given) (near_fits a.xs.now a.ys.now a.kinds.now c.loop-i.i c.requires (omega arith)).0

pub offset_bounds-ys-i : goal.offset_bounds-ys-i
offset_bounds-ys-i c = omega (arith, c.well_formed)

pub bounds-ys-i : goal.bounds-ys-i
bounds-ys-i c = omega arith

pub overflow_cast-y : goal.overflow_cast-y
overflow_cast-y c = let a = c.args in rw (ret w32 _ c.y-1.given) (near_fits a.xs.now a.ys.now a.kinds.now c.loop-i.i c.requires (omega arith)).1

pub loop-i-preserved : goal.loop-i-preserved
loop-i-preserved c = let near : SFits w16 (get_or c.args.xs.now c.loop-i.i (pos 0)) × SFits w16 (get_or c.args.ys.now c.loop-i.i (pos 0)) =
    near_fits c.args.xs.now c.args.ys.now c.args.kinds.now c.loop-i.i c.requires (omega arith) in
    let a = c.args in
    let x0 = c.min-x0 in
    let y0 = c.min-y0 in
    let x1 = c.max-x1 in
    let y1 = c.max-y1 in
    let x = ret w32 (get_or a.xs.now c.loop-i.i (pos 0)) c.x-1.given in
    let y = ret w32 (get_or a.ys.now c.loop-i.i (pos 0)) c.y-1.given in
    record {
      left = fits-back w16 x0.result x0.type_inv;
      top = fits-back w16 y0.result y0.type_inv;
      right = fits-back w16 x1.result x1.type_inv;
      bottom = fits-back w16 y1.result y1.type_inv;
      framed =
          rw (
            ret w16 x0.result x0.type_inv,
            ret w16 y0.result y0.type_inv,
            ret w16 x1.result x1.type_inv,
            ret w16 y1.result y1.type_inv,
            (rw (x, to_z-of_z near.0) at x0.ensures.value) ∙ least-is (to_z w16 c.loop-i.x0-bits) (get_or a.xs.now c.loop-i.i (pos 0)),
            (rw (y, to_z-of_z near.1) at y0.ensures.value) ∙ least-is (to_z w16 c.loop-i.y0-bits) (get_or a.ys.now c.loop-i.i (pos 0)),
            (rw (x, to_z-of_z near.0) at x1.ensures.value) ∙ greatest-is (to_z w16 c.loop-i.x1-bits) (get_or a.xs.now c.loop-i.i (pos 0)),
            (rw (y, to_z-of_z near.1) at y1.ensures.value) ∙ greatest-is (to_z w16 c.loop-i.y1-bits) (get_or a.ys.now c.loop-i.i (pos 0)),
          )
          (framed-more c.loop-i.invariant.framed c.loop-i-test.true);
    }

pub overflow_cast-x0 : goal.overflow_cast-x0
overflow_cast-x0 c = wider c.loop-i.invariant.left

pub overflow_cast-y0 : goal.overflow_cast-y0
overflow_cast-y0 c = wider c.loop-i.invariant.top

pub overflow_cast-x1 : goal.overflow_cast-x1
overflow_cast-x1 c = wider c.loop-i.invariant.right

pub overflow_cast-y1 : goal.overflow_cast-y1
overflow_cast-y1 c = wider c.loop-i.invariant.bottom

pub returns : goal.returns
returns c =
    let a = c.args in
    let k = c.loop-i.invariant in
    let some = c.if-n-eq0.false in
    let fits = near_fits a.xs.now a.ys.now a.kinds.now 0 c.requires (omega (arith, k.framed.whole, some)) in
    rw (c.new-2.ensures, c.new-3.ensures, to_z-of_z (wider k.left), to_z-of_z (wider k.top), to_z-of_z (wider k.right), to_z-of_z (wider k.bottom))
    (framed-done k.framed c.loop-i-test.false (omega (arith, some)) fits.0.sfits fits.1.sfits)
