-- What is written is as far as the place; what comes is the places left.
use Prim.Native.Nat.{◌-◌}
use mathlib.Core.Path.{refl}
use native.Mathlib.Omega.{arith}
use lib.IntN.{pos}
use lib.ListN.{get_or}
use mir.Syntax.{w32}
use mir.Facts.{to_z-of_z}
use Rattle.rules.specs.Pes.{pes_point}
use Rattle.laws.specs.Buffers.{writing_start, writing-room, writing_more, writing-done}
use Rattle.laws.specs.Ints.{ret}
use Rattle.laws.specs.Lengths.{length-point}
use Rattle.laws.specs.Listing.{Listed, listed}
use Rattle.pes_section_cmd.proofs.Distances.{back}
use Rattle.pes_sections.specs.Alike.{points}
use Rattle.pes_sections.proofs.Points.{near-at, points-long, points-more, points_none}
use Rattle.pes_sections.proofs.put_points.Goals as goal

pub loop-k-init : goal.loop-k-init
loop-k-init c =
    let a = c.args in
    let whole = points a.left a.bottom a.xs.now a.ys.now a.i (a.j - a.i) in
    let long = points-long a.left a.bottom a.xs.now a.ys.now a.i (a.j - a.i) in
    rw (to_z-of_z c.ranges.left, to_z-of_z c.ranges.bottom)
    (c.requires.i_le_j.0, (c.requires.i_le_j.1.1, writing_start a.out.now a.at whole (omega (arith, long, c.requires.i_in_bounds))))

pub offset_bounds-xs-k : goal.offset_bounds-xs-k
offset_bounds-xs-k c =
    let here : (let a = c.args in Listed a.xs.now a.ys.now a.kinds.now c.loop-k.k) = listed refl (omega arith) in
    omega (arith, here)

pub bounds-xs-k : goal.bounds-xs-k
bounds-xs-k c =
    let here : (let a = c.args in Listed a.xs.now a.ys.now a.kinds.now c.loop-k.k) = listed refl (omega arith) in
    omega (arith, here)

pub offset_bounds-ys-k : goal.offset_bounds-ys-k
offset_bounds-ys-k c =
    let here : (let a = c.args in Listed a.xs.now a.ys.now a.kinds.now c.loop-k.k) = listed refl (omega arith) in
    omega (arith, here)

pub bounds-ys-k : goal.bounds-ys-k
bounds-ys-k c =
    let here : (let a = c.args in Listed a.xs.now a.ys.now a.kinds.now c.loop-k.k) = listed refl (omega arith) in
    omega (arith, here)

pub put_point-to-requires : goal.put_point-to-requires
put_point-to-requires c = let a = c.args in
    let loop = c.loop-k in
    let px = get_or a.xs.now loop.k (pos 0) in
    let py = get_or a.ys.now loop.k (pos 0) in
    let e = points-more (back a.left) (back a.bottom) a.xs.now a.ys.now loop.k a.j (omega arith) in
    let room = writing-room (pes_point (back a.left) (back a.bottom) px py) _ loop.invariant.1.1 e in
    rw (ret w32 px c.put_point-arg-1.given, ret w32 py c.put_point-arg-in-loop-k-1.given)
    (record { near = near-at a.xs.now a.ys.now a.kinds.now loop.k loop.invariant.1.0 (omega arith); at_in_bounds = rw length-point at room })

pub loop-k-preserved : goal.loop-k-preserved
loop-k-preserved c =
    let loop = c.loop-k in
    let a = c.args in
    let x = ret w32 (get_or a.xs.now loop.k (pos 0)) c.put_point-arg-1.given in
    let y = ret w32 (get_or a.ys.now loop.k (pos 0)) c.put_point-arg-in-loop-k-1.given in
    let e = points-more (back a.left) (back a.bottom) a.xs.now a.ys.now loop.k a.j (omega arith) in
    (omega arith, (loop.invariant.1.0, writing_more loop.invariant.1.1 e (rw (x, y) at c.put_point-to.ensures)))

pub shape_of-out : goal.shape_of-out
shape_of-out c = c.loop-k.invariant.1.1.same

pub returns : goal.returns
returns c =
    let a = c.args in
    let loop = c.loop-k in
    let none = points_none a.left a.bottom a.xs.now a.ys.now loop.k a.j (omega arith) in
    writing-done (rw (to_z-of_z c.ranges.left, to_z-of_z c.ranges.bottom) at loop.invariant.1.1) none
