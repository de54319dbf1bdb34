-- The kind and the place are read, and the step is told.
use borrow.Author.Rules.{rules}
use Prim.Native.Nat.{◌<◌, min}
use native.Mathlib.Omega.{arith}
use lib.IntN.{pos, ◌-ℤ◌}
use lib.ListN.{length, get_or}
use mathlib.Core.Path.{◌≡◌}
use mir.Syntax.{w32}
use mir.Val.{to_z, of_z}
use Rattle.laws.specs.Ints.{fit}
use Rattle.laws.specs.Listing.{length-commands}
use Rattle.stream.proofs.Stream.{most-at, stepped, near_step}
use Rattle.stream.proofs.pairs.put_at.Goals as goal

pub bounds-kinds-i : goal.bounds-kinds-i
bounds-kinds-i c =
    let few : (let a = c.args in a.i < min (length a.xs.now) (min (length a.ys.now) (length a.kinds.now))) = let a = c.args in omega (arith, length-commands a.xs.now a.ys.now a.kinds.now, c.requires.i_in_bounds.0) in
    omega (arith, few)

pub offset_bounds-xs-i : goal.offset_bounds-xs-i
offset_bounds-xs-i c =
    let few : (let a = c.args in a.i < min (length a.xs.now) (min (length a.ys.now) (length a.kinds.now))) = let a = c.args in omega (arith, length-commands a.xs.now a.ys.now a.kinds.now, c.requires.i_in_bounds.0) in
    omega (arith, few)

pub bounds-xs-i : goal.bounds-xs-i
bounds-xs-i c =
    let few : (let a = c.args in a.i < min (length a.xs.now) (min (length a.ys.now) (length a.kinds.now))) = let a = c.args in omega (arith, length-commands a.xs.now a.ys.now a.kinds.now, c.requires.i_in_bounds.0) in
    omega (arith, few)

pub step-requires : goal.step-requires
step-requires c = search (rules, near_step, most-at)

pub offset_bounds-ys-i : goal.offset_bounds-ys-i
offset_bounds-ys-i c =
    let few : (let a = c.args in a.i < min (length a.xs.now) (min (length a.ys.now) (length a.kinds.now))) = let a = c.args in omega (arith, length-commands a.xs.now a.ys.now a.kinds.now, c.requires.i_in_bounds.0) in
    omega (arith, few)

pub bounds-ys-i : goal.bounds-ys-i
bounds-ys-i c =
    let few : (let a = c.args in a.i < min (length a.xs.now) (min (length a.ys.now) (length a.kinds.now))) = let a = c.args in omega (arith, length-commands a.xs.now a.ys.now a.kinds.now, c.requires.i_in_bounds.0) in
    omega (arith, few)

pub step-requires-2 : goal.step-requires-2
step-requires-2 c = search (rules, near_step, most-at)

pub returns : goal.returns
returns c =
    let moves : (
    let a = c.args in
    (to_z w32 (of_z w32 c.step.result) ≡ get_or a.xs.now a.i (pos 0) -ℤ a.x)
    × (to_z w32 (of_z w32 c.step-2.result) ≡ get_or a.ys.now a.i (pos 0) -ℤ a.y)) = search (stepped, fit) in
    let m = moves in
    rw (m.0, m.1, c.op_of.ensures) at c.pair_cmd.ensures
