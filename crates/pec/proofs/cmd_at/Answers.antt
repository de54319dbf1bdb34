-- the command is within the three slices
use native.Mathlib.Omega.{arith}
use Rattle.laws.specs.Listing.{Listed, listed}
use mathlib.Core.Path.{refl}
use Rattle.pec.proofs.cmd_at.Goals as goal

pub offset_bounds-xs-i : goal.offset_bounds-xs-i
offset_bounds-xs-i c =
    let here : (let a = c.args in Listed a.xs.now a.ys.now a.kinds.now a.i) = listed refl c.requires in
    omega (arith, here)

pub bounds-xs-i : goal.bounds-xs-i
bounds-xs-i c =
    let here : (let a = c.args in Listed a.xs.now a.ys.now a.kinds.now a.i) = listed refl c.requires in
    omega (arith, here)

pub offset_bounds-ys-i : goal.offset_bounds-ys-i
offset_bounds-ys-i c =
    let here : (let a = c.args in Listed a.xs.now a.ys.now a.kinds.now a.i) = listed refl c.requires in
    omega (arith, here)

pub bounds-ys-i : goal.bounds-ys-i
bounds-ys-i c =
    let here : (let a = c.args in Listed a.xs.now a.ys.now a.kinds.now a.i) = listed refl c.requires in
    omega (arith, here)

pub bounds-kinds-i : goal.bounds-kinds-i
bounds-kinds-i c =
    let here : (let a = c.args in Listed a.xs.now a.ys.now a.kinds.now a.i) = listed refl c.requires in
    omega (arith, here)
