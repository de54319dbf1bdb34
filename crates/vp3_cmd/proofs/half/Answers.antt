-- The half of how far z is from 0, with its sign.
use Prim.Native.Nat.{◌/◌, ◌<◌}
use mathlib.Core.Path.{◌≡◌}
use native.Mathlib.Omega.{arith}
use lib.IntN.{pos, neg_ℤ, ◌-ℤ◌}
use mir.Facts.{to_z_pos}
use mir.Syntax.{w32}
use mir.Val.{SFits, to_z, of_z}
use Rattle.laws.specs.Ints.{dn, up, ints, seen, abs_is, abs_neg, one0}
use Rattle.vp3_cmd.proofs.Steps.{half-below, half-above}
use Rattle.vp3_cmd.proofs.half.Goals as goal

pub overflow_sub-result : goal.overflow_sub-result
overflow_sub-result c = omega (ints, seen c.ranges.z, abs_is c.args.z, c.requires)

pub overflow_cast-result : goal.overflow_cast-result
overflow_cast-result c =
    let minus : (let z = c.args.z in to_z w32 (of_z w32 (pos 0 -ℤ to_z w32 (of_z w32 z))) ≡ pos (dn z)) = let h = overflow_sub-result c in omega (ints, seen c.ranges.z, one0 c.args.z, c.if-z-lt0.true) in
    rw minus (tt, record { fits = omega (arith, abs_is c.args.z, c.requires) })

pub overflow_cast-result-then-z-lt0 : goal.overflow_cast-result-then-z-lt0
overflow_cast-result-then-z-lt0 c =
    let minus : (let z = c.args.z in to_z w32 (of_z w32 (pos 0 -ℤ to_z w32 (of_z w32 z))) ≡ pos (dn z)) = let h = overflow_sub-result c in omega (ints, seen c.ranges.z, one0 c.args.z, c.if-z-lt0.true) in
    rw minus (record { sfits = omega (arith, abs_is c.args.z, c.requires) })

pub overflow_sub-result-then-z-lt0 : goal.overflow_sub-result-then-z-lt0
overflow_sub-result-then-z-lt0 c =
    let minus : (let z = c.args.z in to_z w32 (of_z w32 (pos 0 -ℤ to_z w32 (of_z w32 z))) ≡ pos (dn z)) = let h = overflow_sub-result c in omega (ints, seen c.ranges.z, one0 c.args.z, c.if-z-lt0.true) in
    let halved : (let z = c.args.z in to_z w32 (dn z / 2) ≡ pos (dn z / 2)) = to_z_pos w32 (omega (arith, abs_is c.args.z, c.requires)) in
    rw (minus, halved) (omega (ints, abs_is c.args.z, c.requires))

pub returns-then-z-lt0 : goal.returns-then-z-lt0
returns-then-z-lt0 c =
    let below : (let z = c.args.z in up z < dn z) = omega (ints, seen c.ranges.z, one0 c.args.z, c.if-z-lt0.true) in
    let minus : (let z = c.args.z in to_z w32 (of_z w32 (pos 0 -ℤ to_z w32 (of_z w32 z))) ≡ pos (dn z)) = let h = overflow_sub-result c in omega (ints, seen c.ranges.z, one0 c.args.z, c.if-z-lt0.true) in
    let halved : (let z = c.args.z in to_z w32 (dn z / 2) ≡ pos (dn z / 2)) = to_z_pos w32 (omega (arith, abs_is c.args.z, c.requires)) in
    let z = c.args.z in
    let h : SFits w32 (pos 0 -ℤ pos (dn z / 2)) = omega (ints, abs_is z, c.requires) in
    let e : to_z w32 (of_z w32 (pos 0 -ℤ pos (dn z / 2))) ≡ neg_ℤ (pos (dn z / 2)) = omega ints in
    rw (minus, halved, e) (half-below z below, rw (abs_neg (pos (dn z / 2))) (omega (arith, abs_is z, c.requires)))

pub overflow_cast-result-2 : goal.overflow_cast-result-2
overflow_cast-result-2 c = omega (ints, seen c.ranges.z, c.if-z-lt0.false)

pub overflow_cast-result-3 : goal.overflow_cast-result-3
overflow_cast-result-3 c =
    let above : (let z = c.args.z in to_z w32 (of_z w32 z) ≡ pos (up z)) = omega (ints, seen c.ranges.z, one0 c.args.z, c.if-z-lt0.false) in
    rw above (record { sfits = omega (arith, abs_is c.args.z, c.requires) })

pub returns : goal.returns
returns c =
    let above : (let z = c.args.z in to_z w32 (of_z w32 z) ≡ pos (up z)) = omega (ints, seen c.ranges.z, one0 c.args.z, c.if-z-lt0.false) in
    let z = c.args.z in
    let e : to_z w32 (up z / 2) ≡ pos (up z / 2) = to_z_pos w32 (omega (arith, abs_is z, c.requires)) in
    rw (above, e) (half-above z (omega (ints, seen c.ranges.z, c.if-z-lt0.false)), omega (arith, abs_is z, c.requires))
