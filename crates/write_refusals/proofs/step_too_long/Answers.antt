-- What is gathered tells the commands before i, and what is left the others, from the place before. All places are in range, so no
-- difference is past 32,000.
use mathlib.Core.Path.{refl, ap, ◌∙◌}
use native.Mathlib.Omega.{arith}
use lib.IntN.{ℤ, ◌-ℤ◌}
use mir.Syntax.{w32}
use mir.Val.{to_z, SFits}
use mathlib.Core.List.{List}
use Prim.Native.Nat.{ℕ}
use mir.Facts.{to_z-of_z}
use Rattle.rules.specs.Lists.{any_from}
use Rattle.rules.specs.Refusals.{steps_past, step_too_long, step_in}
use Rattle.rules.specs.declared.Cmd.{Cmd}
use Rattle.laws.specs.Ints.{ints, ret, abs_is}
use Rattle.laws.specs.Places.{Small, Within}
use Rattle.write_refusals.proofs.Walk.{held, read_at, here, one_more, one_end}
use borrow.Author.Rules.{rules}
use Rattle.write_refusals.proofs.step_too_long.Goals as goal

-- the command at i, as the code reads it
abbrev at_turn : List ℤ → List ℤ → List ℕ → ℕ → Cmd
at_turn xs ys ks i = read_at xs ys ks i

-- a difference of two places in range fits
apart : (z x : ℤ) → Small z → Small x → SFits w32 (z -ℤ x)
apart z x p q = omega (ints, p, abs_is z, q, abs_is x)

pub loop-i-init : goal.loop-i-init
loop-i-init c = (held c.list_len-n.ensures, (omega arith, record { told = refl }))

pub offset_bounds-xs-i : goal.offset_bounds-xs-i
offset_bounds-xs-i c = omega arith

pub bounds-xs-i : goal.bounds-xs-i
bounds-xs-i c = omega arith

pub offset_bounds-ys-i : goal.offset_bounds-ys-i
offset_bounds-ys-i c = omega arith

pub bounds-ys-i : goal.bounds-ys-i
bounds-ys-i c = omega arith

pub overflow_sub-nx : goal.overflow_sub-nx
overflow_sub-nx c =
    let near : Within (at_turn c.args.xs.now c.args.ys.now c.args.kinds.now c.loop-i.i) =
    here c.loop-i.invariant.0 c.requires c.loop-i-test.true c.nx-1.given c.ny-1.given in
    apart (at_turn c.args.xs.now c.args.ys.now c.args.kinds.now c.loop-i.i).x (to_z w32 c.loop-i.x-bits) near.across c.loop-i.invariant.1.0.0

pub overflow_sub-ny : goal.overflow_sub-ny
overflow_sub-ny c =
    let near : Within (at_turn c.args.xs.now c.args.ys.now c.args.kinds.now c.loop-i.i) =
    here c.loop-i.invariant.0 c.requires c.loop-i-test.true c.nx-1.given c.ny-1.given in
    apart (at_turn c.args.xs.now c.args.ys.now c.args.kinds.now c.loop-i.i).y (to_z w32 c.loop-i.y-bits) near.down c.loop-i.invariant.1.0.1

pub loop-i-preserved : goal.loop-i-preserved
unfolding any_from
loop-i-preserved c =
    let near : Within (at_turn c.args.xs.now c.args.ys.now c.args.kinds.now c.loop-i.i) =
    here c.loop-i.invariant.0 c.requires c.loop-i-test.true c.nx-1.given c.ny-1.given in
    let inv = c.loop-i.invariant in
    let told = rw (to_z-of_z (apart (at_turn c.args.xs.now c.args.ys.now c.args.kinds.now c.loop-i.i).x (to_z w32 c.loop-i.x-bits) near.across inv.1.0.0), to_z-of_z (apart (at_turn c.args.xs.now c.args.ys.now c.args.kinds.now c.loop-i.i).y (to_z w32 c.loop-i.y-bits) near.down inv.1.0.1)) at c.is_step_in.ensures in (
      inv.0,
      (
        (near.across, near.down),
        one_more inv.0 inv.1.1 _ c.loop-i-test.true c.nx-1.given c.ny-1.given (λ rest. rw told),
      ),
    )

pub returns : goal.returns
unfolding any_from step_too_long steps_past step_in
returns c =
    let both = c.step_limits-lo in
    let low : SFits w32 both.result.0 = search rules in
    let high : SFits w32 both.result.1 = search rules in
    rw (to_z-of_z low ∙ ap (λ (p : ℤ × ℤ). p.0) both.ensures, to_z-of_z high ∙ ap (λ (p : ℤ × ℤ). p.1) both.ensures) at
    (one_end c.loop-i.invariant.0 c.loop-i.invariant.1.1 c.loop-i-test.false refl)
