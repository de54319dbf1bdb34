-- What is written is as far as the place; what comes is what the commands left take, from the last stitch.
use Prim.Native.Nat.{ℕ, ◌+◌}
use native.Mathlib.Omega.{arith}
use mir.Facts.{to_z-of_z}
use mir.Syntax.{w32}
use mir.Val.{to_z}
use mathlib.Core.Path.{◌≡◌, refl, sym, ◌∙◌}
use lib.ListN.{get_or}
use borrow.Author.Tests.{eqb-true}
use lib.IntN.{ℤ, ◌-ℤ◌}
use mathlib.Core.List.{List}
use Rattle.rules.specs.Vp3.{stitch_of, vp3_cmd, last_stitch}
use Rattle.laws.specs.Listing.{cmd_at, Listed, listed, length-commands}
use Rattle.laws.specs.Places.{Small}
use Rattle.vp3.proofs.Numbers.{read, back-small}
use Rattle.vp3.proofs.Stitches.{Here, Moves, Turn, read_at, here, near-across, near_down, step-fits, moves, stitch-start, stitch-room, stitch-on, stitch-done}
use Rattle.vp3.proofs.Pairs.{place-turn}
use Rattle.vp3.proofs.Turns.{cmd-turn, two-room, two-on}
use Rattle.vp3.proofs.blocks.put_stitches.Goals as goal

-- the turns of two stitches
record Both (xs ys : List ℤ) (ks : List ℕ) (i : ℕ) (px py : ℤ) : Type 0 where
  one : Turn px py (cmd_at xs ys ks i) (stitch_of (read_at xs i -ℤ px) (read_at ys i -ℤ py)) (read_at xs i) (read_at ys i)
  two : Turn (read_at xs i) (read_at ys i) (cmd_at xs ys ks (i + 1)) (stitch_of (read_at xs (i + 1) -ℤ read_at xs i) (read_at ys (i + 1) -ℤ read_at ys i))
      (read_at xs (i + 1)) (read_at ys (i + 1))

-- where the last stitch is behind it
last-is : {r z : ℤ} → r ≡ z → Small z → read r ≡ z
last-is {r} e h = back-small r (rw e (omega (arith, h))) ∙ e

pub loop-i-init : goal.loop-i-init
loop-i-init c =
    let a = c.args in
    let pre = c.requires in
    rw (to_z-of_z c.ranges.x, to_z-of_z c.ranges.y)
    (stitch-start a.xs.now a.ys.now a.kinds.now a.out.now a.at a.from a.end a.x a.y
    pre.from_le_end.0 pre.from_le_end.1 pre.x_bound.0 pre.x_bound.1 pre.end_in_bounds)

pub overflow_add-i : goal.overflow_add-i
overflow_add-i c = let a = c.args in omega (arith, c.loop-i.invariant.listed, length-commands a.xs.now a.ys.now a.kinds.now)

pub overflow_add-j : goal.overflow_add-j
overflow_add-j c = omega arith

pub offset_bounds-xs-i : goal.offset_bounds-xs-i
offset_bounds-xs-i c =
    let inside : (
    let a = c.args in
    Listed a.xs.now a.ys.now a.kinds.now c.loop-i.i) = listed refl (omega (arith, c.loop-i.invariant.listed)) in
    omega (arith, inside)

pub bounds-xs-i : goal.bounds-xs-i
bounds-xs-i c =
    let inside : (
    let a = c.args in
    Listed a.xs.now a.ys.now a.kinds.now c.loop-i.i) = listed refl (omega (arith, c.loop-i.invariant.listed)) in
    inside.across

pub offset_bounds-ys-i : goal.offset_bounds-ys-i
offset_bounds-ys-i c =
    let inside : (
    let a = c.args in
    Listed a.xs.now a.ys.now a.kinds.now c.loop-i.i) = listed refl (omega (arith, c.loop-i.invariant.listed)) in
    omega (arith, inside)

pub bounds-ys-i : goal.bounds-ys-i
bounds-ys-i c =
    let inside : (
    let a = c.args in
    Listed a.xs.now a.ys.now a.kinds.now c.loop-i.i) = listed refl (omega (arith, c.loop-i.invariant.listed)) in
    inside.down

pub bounds-kinds-i : goal.bounds-kinds-i
bounds-kinds-i c =
    let inside : (
    let a = c.args in
    Listed a.xs.now a.ys.now a.kinds.now c.loop-i.i) = listed refl (omega (arith, c.loop-i.invariant.listed)) in
    inside.kind

pub bounds-kinds-j : goal.bounds-kinds-j
bounds-kinds-j c =
    let beside : (
    let a = c.args in
    Listed a.xs.now a.ys.now a.kinds.now (c.loop-i.i + 1)) = listed refl (omega (arith, c.loop-i.invariant.listed)) in
    beside.kind

pub offset_bounds-xs-j : goal.offset_bounds-xs-j
offset_bounds-xs-j c =
    let beside : (
    let a = c.args in
    Listed a.xs.now a.ys.now a.kinds.now (c.loop-i.i + 1)) = listed refl (omega (arith, c.loop-i.invariant.listed)) in
    omega (arith, beside)

pub bounds-xs-j : goal.bounds-xs-j
bounds-xs-j c =
    let beside : (
    let a = c.args in
    Listed a.xs.now a.ys.now a.kinds.now (c.loop-i.i + 1)) = listed refl (omega (arith, c.loop-i.invariant.listed)) in
    beside.across

pub offset_bounds-ys-j : goal.offset_bounds-ys-j
offset_bounds-ys-j c =
    let beside : (
    let a = c.args in
    Listed a.xs.now a.ys.now a.kinds.now (c.loop-i.i + 1)) = listed refl (omega (arith, c.loop-i.invariant.listed)) in
    omega (arith, beside)

pub bounds-ys-j : goal.bounds-ys-j
bounds-ys-j c =
    let beside : (
    let a = c.args in
    Listed a.xs.now a.ys.now a.kinds.now (c.loop-i.i + 1)) = listed refl (omega (arith, c.loop-i.invariant.listed)) in
    beside.down

pub put_two-to-requires : goal.put_two-to-requires
put_two-to-requires c =
    let place : (let a = c.args in Here a.xs.now a.ys.now c.loop-i.i) = let a = c.args in
    here a.xs.now a.ys.now a.kinds.now c.loop-i.i c.requires.kinds_value (omega (arith, c.loop-i.invariant.listed)) in
    let next : (let a = c.args in Here a.xs.now a.ys.now (c.loop-i.i + 1)) = let a = c.args in
    here a.xs.now a.ys.now a.kinds.now (c.loop-i.i + 1) c.requires.kinds_value (omega (arith, c.loop-i.invariant.listed)) in
    let both : (
    let a = c.args in
    Both a.xs.now a.ys.now a.kinds.now c.loop-i.i (to_z w32 c.loop-i.px-bits) (to_z w32 c.loop-i.py-bits)) = let o = c in
    let ks = c.args.kinds.now in
    let i = c.loop-i.i in
    let zero : get_or ks i 0 + get_or ks (i + 1) 0 ≡ 0 = eqb-true _ _ (sym c.are_stitches.ensures ∙ c.if-are_stitches.true) in
    record { one = place-turn ks _ _ place (omega (arith, zero)); two = place-turn ks _ _ next (omega (arith, zero)) } in
    let inv = c.loop-i.invariant in
    let h = place in let k = next in let b = both in
    record { close = ((inv.across, inv.down), ((near-across h, near_down h), (near-across k, near_down k))); ny_in_bounds = two-room inv c.loop-i-test.true b.one b.two }

pub overflow_add-i-then-are_stitches : goal.overflow_add-i-then-are_stitches
overflow_add-i-then-are_stitches c = omega arith

pub loop-i-smaller-then-are_stitches : goal.loop-i-smaller-then-are_stitches
loop-i-smaller-then-are_stitches c = omega arith

pub loop-i-preserved-then-are_stitches : goal.loop-i-preserved-then-are_stitches
loop-i-preserved-then-are_stitches c =
    let place : (let a = c.args in Here a.xs.now a.ys.now c.loop-i.i) = let a = c.args in
    here a.xs.now a.ys.now a.kinds.now c.loop-i.i c.requires.kinds_value (omega (arith, c.loop-i.invariant.listed)) in
    let next : (let a = c.args in Here a.xs.now a.ys.now (c.loop-i.i + 1)) = let a = c.args in
    here a.xs.now a.ys.now a.kinds.now (c.loop-i.i + 1) c.requires.kinds_value (omega (arith, c.loop-i.invariant.listed)) in
    let both : (
    let a = c.args in
    Both a.xs.now a.ys.now a.kinds.now c.loop-i.i (to_z w32 c.loop-i.px-bits) (to_z w32 c.loop-i.py-bits)) = let o = c in
    let ks = c.args.kinds.now in
    let i = c.loop-i.i in
    let zero : get_or ks i 0 + get_or ks (i + 1) 0 ≡ 0 = eqb-true _ _ (sym c.are_stitches.ensures ∙ c.if-are_stitches.true) in
    record { one = place-turn ks _ _ place (omega (arith, zero)); two = place-turn ks _ _ next (omega (arith, zero)) } in
    let b = both in
    two-on c.loop-i.invariant c.loop-i-test.true b.one b.two c.put_two-to.ensures

pub bounds-kinds-i-in-loop-i : goal.bounds-kinds-i-in-loop-i
bounds-kinds-i-in-loop-i c =
    let inside : (
    let a = c.args in
    Listed a.xs.now a.ys.now a.kinds.now c.loop-i.i) = listed refl (omega (arith, c.loop-i.invariant.listed)) in
    inside.kind

pub step-requires : goal.step-requires
step-requires c =
    let place : (let a = c.args in Here a.xs.now a.ys.now c.loop-i.i) = let a = c.args in
    here a.xs.now a.ys.now a.kinds.now c.loop-i.i c.requires.kinds_value (omega (arith, c.loop-i.invariant.listed)) in
    step-fits (to_z w32 c.loop-i.px-bits) (read_at c.args.xs.now c.loop-i.i) c.loop-i.invariant.across (near-across place)

pub step-requires-in-loop-i : goal.step-requires-in-loop-i
step-requires-in-loop-i c =
    let place : (let a = c.args in Here a.xs.now a.ys.now c.loop-i.i) = let a = c.args in
    here a.xs.now a.ys.now a.kinds.now c.loop-i.i c.requires.kinds_value (omega (arith, c.loop-i.invariant.listed)) in
    step-fits (to_z w32 c.loop-i.py-bits) (read_at c.args.ys.now c.loop-i.i) c.loop-i.invariant.down (near_down place)

pub put_cmd-to-requires : goal.put_cmd-to-requires
put_cmd-to-requires c =
    let place : (let a = c.args in Here a.xs.now a.ys.now c.loop-i.i) = let a = c.args in
    here a.xs.now a.ys.now a.kinds.now c.loop-i.i c.requires.kinds_value (omega (arith, c.loop-i.invariant.listed)) in
    let other : (
    let a = c.args in
    let loop = c.loop-i in
    let op = c.op_of-op.result in
    Moves a.xs.now a.ys.now loop.i (to_z w32 loop.px-bits) (to_z w32 loop.py-bits) c.step.result c.step-in-loop-i.result
    × Turn (to_z w32 loop.px-bits) (to_z w32 loop.py-bits) (cmd_at a.xs.now a.ys.now a.kinds.now loop.i)
    (vp3_cmd op (read c.step.result) (read c.step-in-loop-i.result))
    (last_stitch op (to_z w32 loop.px-bits) (read_at a.xs.now loop.i)) (last_stitch op (to_z w32 loop.py-bits) (read_at a.ys.now loop.i))) = let inv = c.loop-i.invariant in
    let h = place in
    let d = moves h inv.across inv.down c.step.ensures c.step-in-loop-i.ensures in
    (d, cmd-turn c.args.kinds.now h d c.op_of-op.ensures inv.across inv.down) in
    let t = other in
    (t.0.near_x, (t.0.near_y, stitch-room c.loop-i.invariant (omega arith) t.1))

pub loop-i-smaller : goal.loop-i-smaller
loop-i-smaller c = omega arith

pub loop-i-preserved : goal.loop-i-preserved
loop-i-preserved c =
    let place : (let a = c.args in Here a.xs.now a.ys.now c.loop-i.i) = let a = c.args in
    here a.xs.now a.ys.now a.kinds.now c.loop-i.i c.requires.kinds_value (omega (arith, c.loop-i.invariant.listed)) in
    let other : (
    let a = c.args in
    let loop = c.loop-i in
    let op = c.op_of-op.result in
    Moves a.xs.now a.ys.now loop.i (to_z w32 loop.px-bits) (to_z w32 loop.py-bits) c.step.result c.step-in-loop-i.result
    × Turn (to_z w32 loop.px-bits) (to_z w32 loop.py-bits) (cmd_at a.xs.now a.ys.now a.kinds.now loop.i)
    (vp3_cmd op (read c.step.result) (read c.step-in-loop-i.result))
    (last_stitch op (to_z w32 loop.px-bits) (read_at a.xs.now loop.i)) (last_stitch op (to_z w32 loop.py-bits) (read_at a.ys.now loop.i))) = let inv = c.loop-i.invariant in
    let h = place in
    let d = moves h inv.across inv.down c.step.ensures c.step-in-loop-i.ensures in
    (d, cmd-turn c.args.kinds.now h d c.op_of-op.ensures inv.across inv.down) in
    let t = other.1 in
    rw (last-is c.last_stitch-px.ensures t.across, last-is c.last_stitch-py.ensures t.down)
    (stitch-on c.loop-i.invariant (omega arith) t c.put_cmd-to.ensures)

pub bounds-kinds-i-then-i-end : goal.bounds-kinds-i-then-i-end
bounds-kinds-i-then-i-end c =
    let tail-inside : (let a = c.args in Listed a.xs.now a.ys.now a.kinds.now c.loop-i.i) = listed refl (omega (arith, c.loop-i.invariant.listed)) in
    tail-inside.kind

pub offset_bounds-xs-i-then-i-end : goal.offset_bounds-xs-i-then-i-end
offset_bounds-xs-i-then-i-end c =
    let tail-inside : (let a = c.args in Listed a.xs.now a.ys.now a.kinds.now c.loop-i.i) = listed refl (omega (arith, c.loop-i.invariant.listed)) in
    omega (arith, tail-inside)

pub bounds-xs-i-then-i-end : goal.bounds-xs-i-then-i-end
bounds-xs-i-then-i-end c =
    let tail-inside : (let a = c.args in Listed a.xs.now a.ys.now a.kinds.now c.loop-i.i) = listed refl (omega (arith, c.loop-i.invariant.listed)) in
    tail-inside.across

pub step-requires-then-i-end : goal.step-requires-then-i-end
step-requires-then-i-end c =
    let tail-place : (let a = c.args in Here a.xs.now a.ys.now c.loop-i.i) = let a = c.args in
    here a.xs.now a.ys.now a.kinds.now c.loop-i.i c.requires.kinds_value (omega (arith, c.loop-i.invariant.listed)) in
    step-fits (to_z w32 c.loop-i.px-bits) (read_at c.args.xs.now c.loop-i.i) c.loop-i.invariant.across (near-across tail-place)

pub offset_bounds-ys-i-then-i-end : goal.offset_bounds-ys-i-then-i-end
offset_bounds-ys-i-then-i-end c =
    let tail-inside : (let a = c.args in Listed a.xs.now a.ys.now a.kinds.now c.loop-i.i) = listed refl (omega (arith, c.loop-i.invariant.listed)) in
    omega (arith, tail-inside)

pub bounds-ys-i-then-i-end : goal.bounds-ys-i-then-i-end
bounds-ys-i-then-i-end c =
    let tail-inside : (let a = c.args in Listed a.xs.now a.ys.now a.kinds.now c.loop-i.i) = listed refl (omega (arith, c.loop-i.invariant.listed)) in
    tail-inside.down

pub step-requires-then-i-end-2 : goal.step-requires-then-i-end-2
step-requires-then-i-end-2 c =
    let tail-place : (let a = c.args in Here a.xs.now a.ys.now c.loop-i.i) = let a = c.args in
    here a.xs.now a.ys.now a.kinds.now c.loop-i.i c.requires.kinds_value (omega (arith, c.loop-i.invariant.listed)) in
    step-fits (to_z w32 c.loop-i.py-bits) (read_at c.args.ys.now c.loop-i.i) c.loop-i.invariant.down (near_down tail-place)

pub put_cmd-requires : goal.put_cmd-requires
put_cmd-requires c =
    let tail-place : (let a = c.args in Here a.xs.now a.ys.now c.loop-i.i) = let a = c.args in
    here a.xs.now a.ys.now a.kinds.now c.loop-i.i c.requires.kinds_value (omega (arith, c.loop-i.invariant.listed)) in
    let tail : (
    let a = c.args in
    let loop = c.loop-i in
    let op = c.op_of.result in
    Moves a.xs.now a.ys.now loop.i (to_z w32 loop.px-bits) (to_z w32 loop.py-bits) c.step-then-i-end.result c.step-then-i-end-2.result
    × Turn (to_z w32 loop.px-bits) (to_z w32 loop.py-bits) (cmd_at a.xs.now a.ys.now a.kinds.now loop.i)
    (vp3_cmd op (read c.step-then-i-end.result) (read c.step-then-i-end-2.result))
    (last_stitch op (to_z w32 loop.px-bits) (read_at a.xs.now loop.i)) (last_stitch op (to_z w32 loop.py-bits) (read_at a.ys.now loop.i))) = let inv = c.loop-i.invariant in
    let h = tail-place in
    let d = moves h inv.across inv.down c.step-then-i-end.ensures c.step-then-i-end-2.ensures in
    (d, cmd-turn c.args.kinds.now h d c.op_of.ensures inv.across inv.down) in
    let k = tail in
    (k.0.near_x, (k.0.near_y, stitch-room c.loop-i.invariant c.if-i-end.true k.1))

pub returns-then-i-end : goal.returns-then-i-end
returns-then-i-end c =
    let tail-place : (let a = c.args in Here a.xs.now a.ys.now c.loop-i.i) = let a = c.args in
    here a.xs.now a.ys.now a.kinds.now c.loop-i.i c.requires.kinds_value (omega (arith, c.loop-i.invariant.listed)) in
    let tail : (
    let a = c.args in
    let loop = c.loop-i in
    let op = c.op_of.result in
    Moves a.xs.now a.ys.now loop.i (to_z w32 loop.px-bits) (to_z w32 loop.py-bits) c.step-then-i-end.result c.step-then-i-end-2.result
    × Turn (to_z w32 loop.px-bits) (to_z w32 loop.py-bits) (cmd_at a.xs.now a.ys.now a.kinds.now loop.i)
    (vp3_cmd op (read c.step-then-i-end.result) (read c.step-then-i-end-2.result))
    (last_stitch op (to_z w32 loop.px-bits) (read_at a.xs.now loop.i)) (last_stitch op (to_z w32 loop.py-bits) (read_at a.ys.now loop.i))) = let inv = c.loop-i.invariant in
    let h = tail-place in
    let d = moves h inv.across inv.down c.step-then-i-end.ensures c.step-then-i-end-2.ensures in
    (d, cmd-turn c.args.kinds.now h d c.op_of.ensures inv.across inv.down) in
    let fits = c.ranges in
    rw (to_z-of_z fits.x, to_z-of_z fits.y) at
    (stitch-done (stitch-on c.loop-i.invariant c.if-i-end.true tail.1 c.put_cmd.ensures) (omega arith))

pub shape_of-out : goal.shape_of-out
shape_of-out c = c.loop-i.invariant.writing.same

pub returns : goal.returns
returns c = let fits = c.ranges in
    rw (to_z-of_z fits.x, to_z-of_z fits.y) at (stitch-done c.loop-i.invariant (omega arith))
