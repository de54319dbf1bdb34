-- What is counted and what the rest of the block takes come to the whole.
use Prim.Native.Nat.{◌+◌, ◌≤◌}
use mathlib.Core.Path.{sym, ◌∙◌}
use native.Mathlib.Omega.{arith}
use borrow.Author.Tests.{eqb-true}
use mir.Facts.{to_z-of_z}
use mir.Syntax.{w32}
use mir.Val.{to_z}
use Rattle.laws.specs.Listing.{Listed, listed, length-commands}
use Rattle.vp3.proofs.Numbers.{read}
use Rattle.vp3.proofs.Stitches.{Here, read_at, here, near-across, near_down, step-fits, moves, scan-start, scan-little, scan-change, scan-on}
use Rattle.vp3.proofs.Pairs.{any-turn, scan-two, scan-rest}
use Rattle.vp3.proofs.blocks.scan_block.Goals as goal

pub loop-i-init : goal.loop-i-init
loop-i-init c =
    let a = c.args in
    let small = c.requires.x_bound in
    scan-start a.xs.now a.ys.now a.kinds.now a.from (read a.x) (read a.y) c.list_len-n.ensures c.requires.kinds_len_bound.1
    (rw (to_z-of_z c.ranges.x) small.0) (rw (to_z-of_z c.ranges.y) small.1)

pub overflow_add-i : goal.overflow_add-i
overflow_add-i c =
    let bound : c.loop-i.i ≤ 65535 = let a = c.args in
    let inv = c.loop-i.invariant in
    omega (arith, inv.inside, inv.count, length-commands a.xs.now a.ys.now a.kinds.now, c.requires.kinds_len_bound.0) in
    omega (arith, bound)

pub overflow_add-j : goal.overflow_add-j
overflow_add-j c =
    let bound : c.loop-i.i ≤ 65535 = let a = c.args in
    let inv = c.loop-i.invariant in
    omega (arith, inv.inside, inv.count, length-commands a.xs.now a.ys.now a.kinds.now, c.requires.kinds_len_bound.0) in
    omega (arith, bound)

pub offset_bounds-xs-i : goal.offset_bounds-xs-i
offset_bounds-xs-i c =
    let bound : c.loop-i.i ≤ 65535 = let a = c.args in
    let inv = c.loop-i.invariant in
    omega (arith, inv.inside, inv.count, length-commands a.xs.now a.ys.now a.kinds.now, c.requires.kinds_len_bound.0) in
    omega (arith, bound)

pub bounds-xs-i : goal.bounds-xs-i
bounds-xs-i c =
    let inside : (
    let a = c.args in
    let i = c.loop-i.i in
    Listed a.xs.now a.ys.now a.kinds.now i × Listed a.xs.now a.ys.now a.kinds.now (i + 1)) = let n = c.loop-i.invariant.count in (listed n (omega (arith, c.loop-i-test.true)), listed n c.loop-i-test.true) in
    inside.0.across

pub offset_bounds-ys-i : goal.offset_bounds-ys-i
offset_bounds-ys-i c =
    let bound : c.loop-i.i ≤ 65535 = let a = c.args in
    let inv = c.loop-i.invariant in
    omega (arith, inv.inside, inv.count, length-commands a.xs.now a.ys.now a.kinds.now, c.requires.kinds_len_bound.0) in
    omega (arith, bound)

pub bounds-ys-i : goal.bounds-ys-i
bounds-ys-i c =
    let inside : (
    let a = c.args in
    let i = c.loop-i.i in
    Listed a.xs.now a.ys.now a.kinds.now i × Listed a.xs.now a.ys.now a.kinds.now (i + 1)) = let n = c.loop-i.invariant.count in (listed n (omega (arith, c.loop-i-test.true)), listed n c.loop-i-test.true) in
    inside.0.down

pub bounds-kinds-i : goal.bounds-kinds-i
bounds-kinds-i c =
    let inside : (
    let a = c.args in
    let i = c.loop-i.i in
    Listed a.xs.now a.ys.now a.kinds.now i × Listed a.xs.now a.ys.now a.kinds.now (i + 1)) = let n = c.loop-i.invariant.count in (listed n (omega (arith, c.loop-i-test.true)), listed n c.loop-i-test.true) in
    inside.0.kind

pub bounds-kinds-j : goal.bounds-kinds-j
bounds-kinds-j c =
    let inside : (
    let a = c.args in
    let i = c.loop-i.i in
    Listed a.xs.now a.ys.now a.kinds.now i × Listed a.xs.now a.ys.now a.kinds.now (i + 1)) = let n = c.loop-i.invariant.count in (listed n (omega (arith, c.loop-i-test.true)), listed n c.loop-i-test.true) in
    inside.1.kind

pub offset_bounds-xs-j : goal.offset_bounds-xs-j
offset_bounds-xs-j c =
    let bound : c.loop-i.i ≤ 65535 = let a = c.args in
    let inv = c.loop-i.invariant in
    omega (arith, inv.inside, inv.count, length-commands a.xs.now a.ys.now a.kinds.now, c.requires.kinds_len_bound.0) in
    omega (arith, bound)

pub bounds-xs-j : goal.bounds-xs-j
bounds-xs-j c =
    let inside : (
    let a = c.args in
    let i = c.loop-i.i in
    Listed a.xs.now a.ys.now a.kinds.now i × Listed a.xs.now a.ys.now a.kinds.now (i + 1)) = let n = c.loop-i.invariant.count in (listed n (omega (arith, c.loop-i-test.true)), listed n c.loop-i-test.true) in
    inside.1.across

pub offset_bounds-ys-j : goal.offset_bounds-ys-j
offset_bounds-ys-j c =
    let bound : c.loop-i.i ≤ 65535 = let a = c.args in
    let inv = c.loop-i.invariant in
    omega (arith, inv.inside, inv.count, length-commands a.xs.now a.ys.now a.kinds.now, c.requires.kinds_len_bound.0) in
    omega (arith, bound)

pub bounds-ys-j : goal.bounds-ys-j
bounds-ys-j c =
    let inside : (
    let a = c.args in
    let i = c.loop-i.i in
    Listed a.xs.now a.ys.now a.kinds.now i × Listed a.xs.now a.ys.now a.kinds.now (i + 1)) = let n = c.loop-i.invariant.count in (listed n (omega (arith, c.loop-i-test.true)), listed n c.loop-i-test.true) in
    inside.1.down

pub two_len-len-requires : goal.two_len-len-requires
two_len-len-requires c =
    let place : (
    let a = c.args in
    let i = c.loop-i.i in
    Here a.xs.now a.ys.now i × Here a.xs.now a.ys.now (i + 1)) = let a = c.args in
    let i = c.loop-i.i in
    let n = c.loop-i.invariant.count in (
      here a.xs.now a.ys.now a.kinds.now i c.requires.kinds_value (omega (arith, n, c.loop-i-test.true)),
      here a.xs.now a.ys.now a.kinds.now (i + 1) c.requires.kinds_value (omega (arith, n, c.loop-i-test.true)),
    ) in
    let inv = c.loop-i.invariant in
    let h = place in
    ((inv.across, inv.down), ((near-across h.0, near_down h.0), (near-across h.1, near_down h.1)))

pub overflow_add-len : goal.overflow_add-len
overflow_add-len c =
    let little : c.loop-i.len ≤ 524280 = let a = c.args in
    let inv = c.loop-i.invariant in
    omega (arith, scan-little inv (omega (arith, inv.count, c.requires.kinds_len_bound.1)), inv.count, length-commands a.xs.now a.ys.now a.kinds.now, c.requires.kinds_len_bound.0) in
    omega (arith, little, c.two_len-len.ensures.1)

pub overflow_add-i-then-are_stitches : goal.overflow_add-i-then-are_stitches
overflow_add-i-then-are_stitches c =
    let bound : c.loop-i.i ≤ 65535 = let a = c.args in
    let inv = c.loop-i.invariant in
    omega (arith, inv.inside, inv.count, length-commands a.xs.now a.ys.now a.kinds.now, c.requires.kinds_len_bound.0) in
    omega (arith, bound)

pub loop-i-smaller-then-are_stitches : goal.loop-i-smaller-then-are_stitches
loop-i-smaller-then-are_stitches c = omega arith

pub loop-i-preserved-then-are_stitches : goal.loop-i-preserved-then-are_stitches
loop-i-preserved-then-are_stitches c =
    let place : (
    let a = c.args in
    let i = c.loop-i.i in
    Here a.xs.now a.ys.now i × Here a.xs.now a.ys.now (i + 1)) = let a = c.args in
    let i = c.loop-i.i in
    let n = c.loop-i.invariant.count in (
      here a.xs.now a.ys.now a.kinds.now i c.requires.kinds_value (omega (arith, n, c.loop-i-test.true)),
      here a.xs.now a.ys.now a.kinds.now (i + 1) c.requires.kinds_value (omega (arith, n, c.loop-i-test.true)),
    ) in
    let h = place in
    let zero = eqb-true _ _ (sym c.are_stitches.ensures ∙ c.if-are_stitches.true) in
    scan-two c.loop-i.invariant c.loop-i-test.true h.0 h.1 zero c.two_len-len.ensures.0

pub bounds-kinds-i-in-loop-i : goal.bounds-kinds-i-in-loop-i
bounds-kinds-i-in-loop-i c =
    let inside : (
    let a = c.args in
    let i = c.loop-i.i in
    Listed a.xs.now a.ys.now a.kinds.now i × Listed a.xs.now a.ys.now a.kinds.now (i + 1)) = let n = c.loop-i.invariant.count in (listed n (omega (arith, c.loop-i-test.true)), listed n c.loop-i-test.true) in
    inside.0.kind

pub returns-then-kinds-i-eq3 : goal.returns-then-kinds-i-eq3
returns-then-kinds-i-eq3 c =
    let fits = c.ranges in
    rw (to_z-of_z fits.x, to_z-of_z fits.y) at (scan-change c.loop-i.invariant (omega (arith, c.loop-i-test.true)) c.if-kinds-i-eq3.true)

pub bounds-kinds-i-in-loop-i-2 : goal.bounds-kinds-i-in-loop-i-2
bounds-kinds-i-in-loop-i-2 c =
    let inside : (
    let a = c.args in
    let i = c.loop-i.i in
    Listed a.xs.now a.ys.now a.kinds.now i × Listed a.xs.now a.ys.now a.kinds.now (i + 1)) = let n = c.loop-i.invariant.count in (listed n (omega (arith, c.loop-i-test.true)), listed n c.loop-i-test.true) in
    inside.0.kind

pub step-requires : goal.step-requires
step-requires c =
    let place : (
    let a = c.args in
    let i = c.loop-i.i in
    Here a.xs.now a.ys.now i × Here a.xs.now a.ys.now (i + 1)) = let a = c.args in
    let i = c.loop-i.i in
    let n = c.loop-i.invariant.count in (
      here a.xs.now a.ys.now a.kinds.now i c.requires.kinds_value (omega (arith, n, c.loop-i-test.true)),
      here a.xs.now a.ys.now a.kinds.now (i + 1) c.requires.kinds_value (omega (arith, n, c.loop-i-test.true)),
    ) in
    step-fits (to_z w32 c.loop-i.px-bits) (read_at c.args.xs.now c.loop-i.i) c.loop-i.invariant.across (near-across place.0)

pub step-requires-in-loop-i : goal.step-requires-in-loop-i
step-requires-in-loop-i c =
    let place : (
    let a = c.args in
    let i = c.loop-i.i in
    Here a.xs.now a.ys.now i × Here a.xs.now a.ys.now (i + 1)) = let a = c.args in
    let i = c.loop-i.i in
    let n = c.loop-i.invariant.count in (
      here a.xs.now a.ys.now a.kinds.now i c.requires.kinds_value (omega (arith, n, c.loop-i-test.true)),
      here a.xs.now a.ys.now a.kinds.now (i + 1) c.requires.kinds_value (omega (arith, n, c.loop-i-test.true)),
    ) in
    step-fits (to_z w32 c.loop-i.py-bits) (read_at c.args.ys.now c.loop-i.i) c.loop-i.invariant.down (near_down place.0)

pub overflow_add-len-in-loop-i : goal.overflow_add-len-in-loop-i
overflow_add-len-in-loop-i c =
    let little : c.loop-i.len ≤ 524280 = let a = c.args in
    let inv = c.loop-i.invariant in
    omega (arith, scan-little inv (omega (arith, inv.count, c.requires.kinds_len_bound.1)), inv.count, length-commands a.xs.now a.ys.now a.kinds.now, c.requires.kinds_len_bound.0) in
    omega (arith, little, c.cmd_len-len.ensures.1)

pub loop-i-smaller : goal.loop-i-smaller
loop-i-smaller c = omega arith

pub loop-i-preserved : goal.loop-i-preserved
loop-i-preserved c =
    let place : (
    let a = c.args in
    let i = c.loop-i.i in
    Here a.xs.now a.ys.now i × Here a.xs.now a.ys.now (i + 1)) = let a = c.args in
    let i = c.loop-i.i in
    let n = c.loop-i.invariant.count in (
      here a.xs.now a.ys.now a.kinds.now i c.requires.kinds_value (omega (arith, n, c.loop-i-test.true)),
      here a.xs.now a.ys.now a.kinds.now (i + 1) c.requires.kinds_value (omega (arith, n, c.loop-i-test.true)),
    ) in
    let ks = c.args.kinds.now in
    let inv = c.loop-i.invariant in
    let h = place.0 in
    let d = moves h inv.across inv.down c.step.ensures c.step-in-loop-i.ensures in
    let turn = any-turn ks h d inv.across inv.down c.op_of-op.ensures c.last_stitch-px.ensures c.last_stitch-py.ensures in
    scan-on inv (omega (arith, c.loop-i-test.true)) turn c.if-kinds-i-eq3.false c.cmd_len-len.ensures.0

pub scan_last-requires : goal.scan_last-requires
scan_last-requires c =
    let little : c.loop-i.len ≤ 524280 = let a = c.args in
    let inv = c.loop-i.invariant in
    omega (arith, scan-little inv (omega (arith, inv.count, c.requires.kinds_len_bound.1)), inv.count, length-commands a.xs.now a.ys.now a.kinds.now, c.requires.kinds_len_bound.0) in
    let inv = c.loop-i.invariant in
    record {
      short = c.requires.kinds_len_bound.0;
      placed = c.requires.kinds_value;
      inside = omega (arith, inv.count, inv.inside);
      last = omega (arith, inv.count, c.loop-i-test.false);
      close = (inv.across, inv.down);
      little = little;
    }

pub returns : goal.returns
returns c = let fits = c.ranges in
    rw (to_z-of_z fits.x, to_z-of_z fits.y) at (scan-rest c.loop-i.invariant c.scan_last.ensures)
