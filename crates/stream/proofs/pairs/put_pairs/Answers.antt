-- What is written is as far as the place; what comes is what the commands left take, from the place of the last.
use mathlib.Core.Path.{sym, ◌∙◌}
use Prim.Native.Nat.{◌+◌}
use native.Mathlib.Omega.{arith}
use borrow.Author.Tests.{eqb-true}
use mir.Syntax.{w32}
use mir.Val.{to_z}
use Rattle.rules.specs.Exp.{pair_of}
use Rattle.stream_cmd.specs.Cmds.{pair_stream}
use Rattle.stream_cmd.proofs.Bytes.{stitch-pair, pair_step}
use Rattle.laws.specs.Listing.{length-commands}
use Rattle.stream.proofs.Stream.{Two, read_at, one-step, one-turn, one-read, two-read, going_start, going-room, going_on, going_done}
use Rattle.stream.proofs.pairs.put_pairs.Goals as goal

pub loop-i-init : goal.loop-i-init
loop-i-init c =
    let a = c.args in
    let n = c.list_len-n.ensures in
    let whole = going_start (pair_stream a.jef) a.xs.now a.ys.now a.kinds.now a.out.now a.at c.requires in
    (n, (n ∙ length-commands a.xs.now a.ys.now a.kinds.now, (omega arith, whole)))

pub overflow_add-i : goal.overflow_add-i
overflow_add-i c = omega arith

pub overflow_add-j : goal.overflow_add-j
overflow_add-j c = omega arith

pub bounds-kinds-i : goal.bounds-kinds-i
bounds-kinds-i c = omega arith

pub bounds-kinds-j : goal.bounds-kinds-j
bounds-kinds-j c = omega arith

pub offset_bounds-xs-j : goal.offset_bounds-xs-j
offset_bounds-xs-j c = omega arith

pub bounds-xs-j : goal.bounds-xs-j
bounds-xs-j c = omega arith

pub offset_bounds-ys-j : goal.offset_bounds-ys-j
offset_bounds-ys-j c = omega arith

pub bounds-ys-j : goal.bounds-ys-j
bounds-ys-j c = omega arith

pub offset_bounds-xs-i : goal.offset_bounds-xs-i
offset_bounds-xs-i c = omega arith

pub bounds-xs-i : goal.bounds-xs-i
bounds-xs-i c = omega arith

pub offset_bounds-ys-i : goal.offset_bounds-ys-i
offset_bounds-ys-i c = omega arith

pub bounds-ys-i : goal.bounds-ys-i
bounds-ys-i c = omega arith

pub overflow_add-i-then-are_stitches : goal.overflow_add-i-then-are_stitches
overflow_add-i-then-are_stitches c = omega arith

pub loop-i-smaller-then-are_stitches : goal.loop-i-smaller-then-are_stitches
loop-i-smaller-then-are_stitches c = omega arith

pub put_at-to-requires : goal.put_at-to-requires
unfolding pair_of
put_at-to-requires c = let g = c.loop-i.invariant.1.1.1 in
    record { i_in_bounds = (omega arith, one-step g.steps (omega arith)); y_in_bounds = going-room g (one-turn g.steps (omega arith)) }

pub offset_bounds-xs-i-in-loop-i : goal.offset_bounds-xs-i-in-loop-i
offset_bounds-xs-i-in-loop-i c = omega arith

pub bounds-xs-i-in-loop-i : goal.bounds-xs-i-in-loop-i
bounds-xs-i-in-loop-i c = omega arith

pub offset_bounds-ys-i-in-loop-i : goal.offset_bounds-ys-i-in-loop-i
offset_bounds-ys-i-in-loop-i c = omega arith

pub bounds-ys-i-in-loop-i : goal.bounds-ys-i-in-loop-i
bounds-ys-i-in-loop-i c = omega arith

pub loop-i-smaller : goal.loop-i-smaller
loop-i-smaller c = omega arith

pub loop-i-preserved : goal.loop-i-preserved
loop-i-preserved c = let inv = c.loop-i.invariant in
    let g = inv.1.1.1 in
    let t = one-read g.steps (omega arith) c.x-1.given c.y-1.given in
    (inv.0, (inv.1.0, (omega arith, going_on g t c.put_at-to.ensures)))

pub put_at-requires : goal.put_at-requires
unfolding pair_of
put_at-requires c = let g = c.loop-i.invariant.1.1.1 in
    record { i_in_bounds = (omega arith, one-step g.steps (omega arith)); y_in_bounds = going-room g (one-turn g.steps (omega arith)) }

pub returns-then-i-n : goal.returns-then-i-n
unfolding pair_of
returns-then-i-n c = let g = c.loop-i.invariant.1.1.1 in
    going_done (going_on g (one-turn g.steps (omega arith)) c.put_at.ensures) (omega arith)

pub shape_of-out : goal.shape_of-out
shape_of-out c = c.loop-i.invariant.1.1.1.writing.same

pub returns : goal.returns
unfolding pair_of
returns c = going_done c.loop-i.invariant.1.1.1 (omega arith)

pub put_two-to-requires : goal.put_two-to-requires
unfolding pair_of
put_two-to-requires c =
    let two : (
    let a = c.args in
    let loop = c.loop-i in
    let i = loop.i in
    Two (pair_stream a.jef) a.xs.now a.ys.now a.kinds.now i (to_z w32 loop.x-bits) (to_z w32 loop.y-bits)
    (read_at a.xs.now i) (read_at a.ys.now i) (read_at a.xs.now (i + 1)) (read_at a.ys.now (i + 1))) = let zero = eqb-true _ _ (sym c.are_stitches.ensures ∙ c.if-are_stitches.true) in
    two-read c.loop-i.invariant.1.1.1.steps (omega arith) zero
    c.put_two-arg-1.given c.put_two-arg-then-are_stitches-1.given c.mx-1.given c.my-1.given in
    let jef = c.args.jef in
    let t = two in
    record { step = pair_step jef t.first; step_2 = pair_step jef t.second; at_in_bounds = going-room c.loop-i.invariant.1.1.1 (simp stitch-pair at t.turn) }

pub loop-i-preserved-then-are_stitches : goal.loop-i-preserved-then-are_stitches
loop-i-preserved-then-are_stitches c =
    let two : (
    let a = c.args in
    let loop = c.loop-i in
    let i = loop.i in
    Two (pair_stream a.jef) a.xs.now a.ys.now a.kinds.now i (to_z w32 loop.x-bits) (to_z w32 loop.y-bits)
    (read_at a.xs.now i) (read_at a.ys.now i) (read_at a.xs.now (i + 1)) (read_at a.ys.now (i + 1))) = let zero = eqb-true _ _ (sym c.are_stitches.ensures ∙ c.if-are_stitches.true) in
    two-read c.loop-i.invariant.1.1.1.steps (omega arith) zero
    c.put_two-arg-1.given c.put_two-arg-then-are_stitches-1.given c.mx-1.given c.my-1.given in
    let inv = c.loop-i.invariant in
    (inv.0, (inv.1.0, (omega arith, going_on inv.1.1.1 (simp stitch-pair at two.turn) c.put_two-to.ensures)))
