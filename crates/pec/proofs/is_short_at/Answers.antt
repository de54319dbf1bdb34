-- The steps, the two tests of `between` and the kind.
use mathlib.Core.Path.{refl, sym, ◌∙◌}
use mathlib.Core.Bool.{◌&&◌}
use native.Mathlib.Omega.{arith}
use mir.Syntax.{w32}
use Rattle.laws.specs.Tests.{and_left, and_right}
use Rattle.laws.specs.Ints.{ret}
use Rattle.laws.specs.Listing.{Listed, listed}
use Rattle.pec_cmd.specs.States.{Step}
use Rattle.pec.specs.Shorts.{step_to}
use Rattle.pec.proofs.Runs.{read_step, near_step}
use borrow.Author.Tests.{eqb-true}
use Rattle.pec.proofs.is_short_at.Goals as goal

pub offset_bounds-xs-i : goal.offset_bounds-xs-i
offset_bounds-xs-i c =
    let here : (let a = c.args in Listed a.xs.now a.ys.now a.kinds.now a.i) = listed refl c.requires.i_nonzero.1 in
    omega (arith, here)

pub bounds-xs-i : goal.bounds-xs-i
bounds-xs-i c =
    let here : (let a = c.args in Listed a.xs.now a.ys.now a.kinds.now a.i) = listed refl c.requires.i_nonzero.1 in
    omega (arith, here)

pub offset_bounds-xs-i-2 : goal.offset_bounds-xs-i-2
offset_bounds-xs-i-2 c =
    let here : (let a = c.args in Listed a.xs.now a.ys.now a.kinds.now a.i) = listed refl c.requires.i_nonzero.1 in
    omega (arith, here)

pub bounds-xs-i-2 : goal.bounds-xs-i-2
bounds-xs-i-2 c =
    let here : (let a = c.args in Listed a.xs.now a.ys.now a.kinds.now a.i) = listed refl c.requires.i_nonzero.1 in
    omega (arith, here)

pub step-dx-requires : goal.step-dx-requires
step-dx-requires c =
    let near : (let a = c.args in Step (step_to a.xs.now a.i) (step_to a.ys.now a.i)) = let a = c.args in
    near_step a.xs.now a.ys.now a.kinds.now c.requires.kinds_value a.i c.requires.i_nonzero.0 c.requires.i_nonzero.1 in
    rw (read_step c.args.xs.now c.args.i c.step-arg-1.given c.step-arg-2-1.given) (omega (arith, near.x))

pub offset_bounds-ys-i : goal.offset_bounds-ys-i
offset_bounds-ys-i c =
    let here : (let a = c.args in Listed a.xs.now a.ys.now a.kinds.now a.i) = listed refl c.requires.i_nonzero.1 in
    omega (arith, here)

pub bounds-ys-i : goal.bounds-ys-i
bounds-ys-i c =
    let here : (let a = c.args in Listed a.xs.now a.ys.now a.kinds.now a.i) = listed refl c.requires.i_nonzero.1 in
    omega (arith, here)

pub offset_bounds-ys-i-2 : goal.offset_bounds-ys-i-2
offset_bounds-ys-i-2 c =
    let here : (let a = c.args in Listed a.xs.now a.ys.now a.kinds.now a.i) = listed refl c.requires.i_nonzero.1 in
    omega (arith, here)

pub bounds-ys-i-2 : goal.bounds-ys-i-2
bounds-ys-i-2 c =
    let here : (let a = c.args in Listed a.xs.now a.ys.now a.kinds.now a.i) = listed refl c.requires.i_nonzero.1 in
    omega (arith, here)

pub step-dy-requires : goal.step-dy-requires
step-dy-requires c =
    let near : (let a = c.args in Step (step_to a.xs.now a.i) (step_to a.ys.now a.i)) = let a = c.args in
    near_step a.xs.now a.ys.now a.kinds.now c.requires.kinds_value a.i c.requires.i_nonzero.0 c.requires.i_nonzero.1 in
    rw (read_step c.args.ys.now c.args.i c.step-arg-3-1.given c.step-arg-4-1.given) (omega (arith, near.y))

pub bounds-kinds-i : goal.bounds-kinds-i
bounds-kinds-i c =
    let here : (let a = c.args in Listed a.xs.now a.ys.now a.kinds.now a.i) = listed refl c.requires.i_nonzero.1 in
    omega (arith, here)

pub returns : goal.returns
returns c = let a = c.args in
    let dx = ret w32 c.step-dx.result c.step-dx.type_inv ∙ c.step-dx.ensures ∙ read_step a.xs.now a.i c.step-arg-1.given c.step-arg-2-1.given in
    let dy = ret w32 c.step-dy.result c.step-dy.type_inv ∙ c.step-dy.ensures ∙ read_step a.ys.now a.i c.step-arg-3-1.given c.step-arg-4-1.given in
    let px = c.is_short.result in
    let py = c.is_short-2.result in
    λ e. record {
      stitch = eqb-true _ _ (and_right (px && py) _ e);
      x = sym (rw dx at c.is_short.ensures) ∙ and_left px py (and_left (px && py) _ e);
      y = sym (rw dy at c.is_short-2.ensures) ∙ and_right px py (and_left (px && py) _ e);
    }
