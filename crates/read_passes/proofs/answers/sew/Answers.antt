-- The step is added to the place.
use mathlib.Core.Path.{◌≡◌, ◌∙◌}
use native.Mathlib.Omega.{arith}
use lib.IntN.{◌+ℤ◌}
use mir.Syntax.{w32}
use Rattle.laws.specs.Ints.{ret}
use Rattle.read_builder.proofs.Parts.{point-cells, in-run}
use Rattle.read_passes.proofs.Turns.{two-points, read, summed}
use Rattle.read_passes.proofs.answers.sew.Goals as goal

pub put_point-requires-then-b-eq0 : goal.put_point-requires-then-b-eq0
put_point-requires-then-b-eq0 c =
    let b = c.args.b in
    let e = c.if-b-eq0.true in
    omega (arith, c.put_point.auto, rw e at c.requires.y_in_bounds, rw e at (point-cells b.run b.x b.y))

pub returns-then-b-eq0 : goal.returns-then-b-eq0
returns-then-b-eq0 c =
    let sums : let a = c.args in
    (read c.sum-x.result ≡ a.b.x +ℤ a.dx) × (read c.sum-y.result ≡ a.b.y +ℤ a.dy) = let u = c.sum-x in
    let v = c.sum-y in
    let b = c.args.b in
    (summed b.x u.type_inv u.ensures c.requires.small.x c.ranges.dx, summed b.y v.type_inv v.ensures c.requires.small.y c.ranges.dy) in
    let k = sums in
    let at_x = ret w32 c.args.b.x c.requires.small.x in
    let at_y = ret w32 c.args.b.y c.requires.small.y in
    let p = c.put_point.ensures in
    let q = rw (p, k.0, k.1, at_x, at_y) at c.put_point-then-b-eq0.ensures in
    record { value = rw (c.stitch.ensures, k.0, k.1); places_value = rw c.if-b-eq0.true (q ∙ two-points _ _ _ _ _ _) }

pub returns : goal.returns
returns c =
    let sums : let a = c.args in
    (read c.sum-x.result ≡ a.b.x +ℤ a.dx) × (read c.sum-y.result ≡ a.b.y +ℤ a.dy) = let u = c.sum-x in
    let v = c.sum-y in
    let b = c.args.b in
    (summed b.x u.type_inv u.ensures c.requires.small.x c.ranges.dx, summed b.y v.type_inv v.ensures c.requires.small.y c.ranges.dy) in
    let k = sums in
    let a = c.args in
    let o = in-run a.b.run c.if-b-eq0.false in
    record { value = rw (c.stitch-2.ensures, k.0, k.1); places_value = rw (c.put_point-2.ensures, k.0, k.1, o.start a.b.x a.b.y) }
