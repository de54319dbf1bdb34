-- What is written is as far as the place; what comes is the sections of the commands left.
use Prim.Native.Nat.{◌-◌, ◌<◌}
use native.Mathlib.Omega.{arith}
use lib.IntN.{pos}
use lib.ListN.{length, get_or}
use mir.Syntax.{w32}
use mir.Facts.{to_z-of_z}
use Rattle.rules.specs.Lists.{commands, threads_of}
use Rattle.rules.specs.Pes.{pes_start, pes_sections}
use Rattle.laws.specs.Buffers.{writing_start, writing-room, writing_more, writing-done}
use Rattle.laws.specs.Ints.{ret}
use Rattle.pes_section_cmd.specs.States.{state_of}
use Rattle.pes_section_cmd.proofs.Distances.{back}
use Rattle.pes_sections.specs.Alike.{points}
use Rattle.pes_sections.proofs.Points.{near-at, points-long}
use Rattle.pes_sections.proofs.Stretch.{Stretch, stretch-from, stretch-bytes}
use Rattle.pes_sections.proofs.Steps.{walk_start, walk_more, walk-on, turned, bytes_at, next-bytes, no_bytes}
use Rattle.pes_sections.proofs.Stream.{near-start, near-as, near-after}
use Rattle.pes_sections.proofs.put_sections.Goals as goal

pub start-s-requires : goal.start-s-requires
start-s-requires c = c.requires.coded

pub loop-i-init : goal.loop-i-init
loop-i-init c =
    let a = c.args in
    let ts = threads_of a.threads.now in
    let near = near-start a.left a.bottom ts c.start-s.ensures c.requires.kinds_len_bound.1.0 in
    let whole = pes_sections a.left a.bottom ts (pes_start ts) (commands a.xs.now a.ys.now a.kinds.now) in
    let writing = writing_start a.out.now a.at whole c.requires.kinds_in_bounds in
    rw (to_z-of_z c.ranges.left, to_z-of_z c.ranges.bottom)
    (walk_start ts c.list_len-n.ensures c.requires.kinds_len_bound.0 c.start-s.ensures, ((near, c.requires.kinds_len_bound.1.1), rw c.start-s.ensures writing))

pub bounds-kinds-i : goal.bounds-kinds-i
bounds-kinds-i c = omega arith

pub run_end-end-requires : goal.run_end-end-requires
run_end-end-requires c = omega arith

pub put_points-to-requires : goal.put_points-to-requires
put_points-to-requires c =
    let stretch : Stretch c.run_end-end.result c.args.xs.now c.args.ys.now c.args.kinds.now c.loop-i.i c.loop-i.s.before = let is_new = c.is_new-new in
    stretch-from (omega arith) is_new.ensures (c.goes_on.ensures c.if-goes_on.true) c.run_end-end.ensures in
    let a = c.args in
    let loop = c.loop-i in
    let w = stretch in
    let n = c.run_end-end.result - loop.i in
    let e = stretch-bytes (state_of loop.s) w (threads_of a.threads.now) (back a.left) (back a.bottom) in
    let room = writing-room (points (back a.left) (back a.bottom) a.xs.now a.ys.now loop.i n) _ loop.invariant.1.1 e in
    record { i_le_j = (omega (arith, w.some), (w.inside, loop.invariant.1.0.1)); i_in_bounds = rw points-long at room }

pub overflow_sub-end : goal.overflow_sub-end
overflow_sub-end c =
    let stretch : Stretch c.run_end-end.result c.args.xs.now c.args.ys.now c.args.kinds.now c.loop-i.i c.loop-i.s.before = let is_new = c.is_new-new in
    stretch-from (omega arith) is_new.ensures (c.goes_on.ensures c.if-goes_on.true) c.run_end-end.ensures in
    omega (arith, stretch)

pub offset_bounds-xs-end : goal.offset_bounds-xs-end
offset_bounds-xs-end c =
    let stretch : Stretch c.run_end-end.result c.args.xs.now c.args.ys.now c.args.kinds.now c.loop-i.i c.loop-i.s.before = let is_new = c.is_new-new in
    stretch-from (omega arith) is_new.ensures (c.goes_on.ensures c.if-goes_on.true) c.run_end-end.ensures in
    omega (arith, stretch)

pub bounds-xs-end : goal.bounds-xs-end
bounds-xs-end c =
    let stretch : Stretch c.run_end-end.result c.args.xs.now c.args.ys.now c.args.kinds.now c.loop-i.i c.loop-i.s.before = let is_new = c.is_new-new in
    stretch-from (omega arith) is_new.ensures (c.goes_on.ensures c.if-goes_on.true) c.run_end-end.ensures in
    omega (arith, stretch)

pub overflow_sub-end-then-goes_on : goal.overflow_sub-end-then-goes_on
overflow_sub-end-then-goes_on c =
    let stretch : Stretch c.run_end-end.result c.args.xs.now c.args.ys.now c.args.kinds.now c.loop-i.i c.loop-i.s.before = let is_new = c.is_new-new in
    stretch-from (omega arith) is_new.ensures (c.goes_on.ensures c.if-goes_on.true) c.run_end-end.ensures in
    omega (arith, stretch)

pub offset_bounds-ys-end : goal.offset_bounds-ys-end
offset_bounds-ys-end c =
    let stretch : Stretch c.run_end-end.result c.args.xs.now c.args.ys.now c.args.kinds.now c.loop-i.i c.loop-i.s.before = let is_new = c.is_new-new in
    stretch-from (omega arith) is_new.ensures (c.goes_on.ensures c.if-goes_on.true) c.run_end-end.ensures in
    omega (arith, stretch)

pub bounds-ys-end : goal.bounds-ys-end
bounds-ys-end c =
    let stretch : Stretch c.run_end-end.result c.args.xs.now c.args.ys.now c.args.kinds.now c.loop-i.i c.loop-i.s.before = let is_new = c.is_new-new in
    stretch-from (omega arith) is_new.ensures (c.goes_on.ensures c.if-goes_on.true) c.run_end-end.ensures in
    omega (arith, stretch)

pub loop-i-smaller-then-goes_on : goal.loop-i-smaller-then-goes_on
loop-i-smaller-then-goes_on c =
    let stretch : Stretch c.run_end-end.result c.args.xs.now c.args.ys.now c.args.kinds.now c.loop-i.i c.loop-i.s.before = let is_new = c.is_new-new in
    stretch-from (omega arith) is_new.ensures (c.goes_on.ensures c.if-goes_on.true) c.run_end-end.ensures in
    omega (arith, stretch)

pub loop-i-preserved-then-goes_on : goal.loop-i-preserved-then-goes_on
loop-i-preserved-then-goes_on c =
    let stretch : Stretch c.run_end-end.result c.args.xs.now c.args.ys.now c.args.kinds.now c.loop-i.i c.loop-i.s.before = let is_new = c.is_new-new in
    stretch-from (omega arith) is_new.ensures (c.goes_on.ensures c.if-goes_on.true) c.run_end-end.ensures in
    let a = c.args in
    let loop = c.loop-i in
    let end = c.run_end-end.result in
    let w = stretch in
    let e = stretch-bytes (state_of loop.s) w (threads_of a.threads.now) (back a.left) (back a.bottom) in
    let x = ret w32 (get_or a.xs.now (end - 1) (pos 0)) c.moved-arg-1.given in
    let y = ret w32 (get_or a.ys.now (end - 1) (pos 0)) c.moved-arg-then-goes_on-1.given in
    let after = rw (x, y) at c.moved-s.ensures in
    let near = near-at a.xs.now a.ys.now a.kinds.now (end - 1) loop.invariant.1.0.1 (omega (arith, w)) in
    let more = writing_more loop.invariant.1.1 e c.put_points-to.ensures in
    (rw after (walk-on loop.invariant.0 w.some _ _), ((near-as after near, loop.invariant.1.0.1), rw after more))

pub put_cmd-to-requires : goal.put_cmd-to-requires
put_cmd-to-requires c =
    let a = c.args in
    let loop = c.loop-i in
    let s = state_of loop.s in
    let ts = threads_of a.threads.now in
    let l : loop.i < length (commands a.xs.now a.ys.now a.kinds.now) = omega arith in
    let e = next-bytes a.xs.now a.ys.now a.kinds.now loop.i s ts l (back a.left) (back a.bottom) in
    let vs = bytes_at a.xs.now a.ys.now a.kinds.now loop.i s ts (back a.left) (back a.bottom) in
    rw c.is_new-new.ensures
    (record { i_in_bounds = l; near = loop.invariant.1.0; i_in_bounds_2 = writing-room vs _ loop.invariant.1.1 e })

pub offset_bounds-xs-i : goal.offset_bounds-xs-i
offset_bounds-xs-i c = omega arith

pub bounds-xs-i : goal.bounds-xs-i
bounds-xs-i c = omega arith

pub offset_bounds-ys-i : goal.offset_bounds-ys-i
offset_bounds-ys-i c = omega arith

pub bounds-ys-i : goal.bounds-ys-i
bounds-ys-i c = omega arith

pub next-s-requires : goal.next-s-requires
next-s-requires c = record { coded = c.requires.coded; thread_bound = omega arith }

pub overflow_add-i : goal.overflow_add-i
overflow_add-i c = omega arith

pub loop-i-smaller : goal.loop-i-smaller
loop-i-smaller c = omega arith

pub loop-i-preserved : goal.loop-i-preserved
loop-i-preserved c =
    let a = c.args in
    let loop = c.loop-i in
    let l : loop.i < length (commands a.xs.now a.ys.now a.kinds.now) = omega arith in
    let ts = threads_of a.threads.now in
    let e = next-bytes a.xs.now a.ys.now a.kinds.now loop.i (state_of loop.s) ts l (back a.left) (back a.bottom) in
    let put = rw c.is_new-new.ensures at c.put_cmd-to.ensures in
    let turn = turned c.is_new-new.ensures c.next-arg-1.given c.next-arg-in-loop-i-1.given c.next-s.ensures in (
      walk_more turn loop.invariant.0,
      ((near-after turn loop.invariant.1.0.0 loop.invariant.1.0.1 l, loop.invariant.1.0.1), rw turn.after (writing_more loop.invariant.1.1 e put)),
    )

pub shape_of-out : goal.shape_of-out
shape_of-out c = c.loop-i.invariant.1.1.same

pub returns : goal.returns
returns c =
    let a = c.args in
    let loop = c.loop-i in
    let cs = commands a.xs.now a.ys.now a.kinds.now in
    let none = no_bytes (threads_of a.threads.now) cs loop.i (omega arith) (state_of loop.s) a.left a.bottom in
    writing-done (rw (to_z-of_z c.ranges.left, to_z-of_z c.ranges.bottom) at loop.invariant.1.1) none
