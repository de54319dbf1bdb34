-- What is written is as far as the place; what comes is the log of the commands left.
use native.Mathlib.Omega.{arith}
use Rattle.rules.specs.Lists.{commands, threads_of}
use Rattle.laws.specs.Buffers.{writing_start, writing-room, writing_more, writing-done}
use Rattle.pes_section_cmd.specs.States.{state_of, moved_to}
use Rattle.pes_sections.proofs.Stretch.{Stretch, stretch-from, stretch-log}
use Rattle.pes_sections.proofs.Steps.{walk_start, walk_more, walk-on, turned, somewhere-start, somewhere-more}
use Rattle.pes_sections.proofs.Steps.{entry_at, next-entry, no-entry}
use Rattle.pes_sections.proofs.put_log.Goals as goal

pub start-s-requires : goal.start-s-requires
start-s-requires c = c.requires.coded

pub loop-i-init : goal.loop-i-init
loop-i-init c =
    let ts = threads_of c.args.threads.now in
    let writing = writing_start c.args.out.now c.args.at _ c.requires.kinds_in_bounds in
    (walk_start ts c.list_len-n.ensures c.requires.kinds_len_bound c.start-s.ensures, rw c.start-s.ensures (somewhere-start writing))

pub bounds-kinds-i : goal.bounds-kinds-i
bounds-kinds-i c = omega arith

pub run_end-i-requires : goal.run_end-i-requires
run_end-i-requires c = omega arith

pub loop-i-smaller-then-goes_on : goal.loop-i-smaller-then-goes_on
loop-i-smaller-then-goes_on c =
    let stretch : (
    let a = c.args in
    Stretch c.run_end-i.result a.xs.now a.ys.now a.kinds.now c.loop-i.i c.loop-i.s.before) = let is_new = c.is_new-new in
    stretch-from (omega arith) is_new.ensures (c.goes_on.ensures c.if-goes_on.true) c.run_end-i.ensures in
    omega (arith, stretch)

pub loop-i-preserved-then-goes_on : goal.loop-i-preserved-then-goes_on
loop-i-preserved-then-goes_on c =
    let stretch : (
    let a = c.args in
    Stretch c.run_end-i.result a.xs.now a.ys.now a.kinds.now c.loop-i.i c.loop-i.s.before) = let is_new = c.is_new-new in
    stretch-from (omega arith) is_new.ensures (c.goes_on.ensures c.if-goes_on.true) c.run_end-i.ensures in
    let ts = threads_of c.args.threads.now in
    let w = stretch in
    let some = c.loop-i.invariant.1 in
    let log = stretch-log (moved_to (state_of c.loop-i.s) some.x some.y) w ts c.loop-i.last in
    (walk-on c.loop-i.invariant.0 w.some _ _, record { x = _; y = _; there = rw log at some.there })

pub put_entry-to-requires : goal.put_entry-to-requires
put_entry-to-requires c =
    let a = c.args in
    let loop = c.loop-i in
    let some = loop.invariant.1 in
    let s = moved_to (state_of loop.s) some.x some.y in
    let vs = entry_at a.xs.now a.ys.now a.kinds.now loop.i s loop.last in
    let e = next-entry a.xs.now a.ys.now a.kinds.now loop.i s (threads_of a.threads.now) (omega arith) loop.last in
    rw (rw c.is_new-new.ensures at c.is_logged-log.ensures) (writing-room vs _ some.there e)

pub offset_bounds-xs-i : goal.offset_bounds-xs-i
offset_bounds-xs-i c = omega arith

pub bounds-xs-i : goal.bounds-xs-i
bounds-xs-i c = omega arith

pub offset_bounds-ys-i : goal.offset_bounds-ys-i
offset_bounds-ys-i c = omega arith

pub bounds-ys-i : goal.bounds-ys-i
bounds-ys-i c = omega arith

pub next-s-requires : goal.next-s-requires
next-s-requires c = record { coded = c.requires.coded; thread_bound = omega arith }

pub loop-i-smaller : goal.loop-i-smaller
loop-i-smaller c = omega arith

pub loop-i-preserved : goal.loop-i-preserved
loop-i-preserved c =
    let loop = c.loop-i in
    let a = c.args in
    let ts = threads_of a.threads.now in
    let s = state_of loop.s in
    let log = rw c.is_new-new.ensures at c.is_logged-log.ensures in
    let put = rw log at c.put_entry-to.ensures in
    let last = rw log at c.last_code-last.ensures in
    let turn = turned c.is_new-new.ensures c.next-arg-1.given c.next-arg-in-loop-i-1.given c.next-s.ensures in (
      walk_more turn loop.invariant.0,
      rw last (somewhere-more turn
          (λ x y w. writing_more w (next-entry a.xs.now a.ys.now a.kinds.now loop.i (moved_to s x y) ts (omega arith) loop.last) put)
          loop.invariant.1),
    )

pub shape_of-out : goal.shape_of-out
shape_of-out c = c.loop-i.invariant.1.there.same

pub returns : goal.returns
returns c = let a = c.args in
    let loop = c.loop-i in
    let cs = commands a.xs.now a.ys.now a.kinds.now in
    writing-done loop.invariant.1.there (no-entry (threads_of a.threads.now) cs loop.i (omega arith) _ loop.last)
