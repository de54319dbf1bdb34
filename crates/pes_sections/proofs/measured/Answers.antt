-- What is measured and what the commands left take come to the whole.
use native.Mathlib.Omega.{arith}
use Rattle.rules.specs.Lists.{commands, threads_of}
use Rattle.pes_section_cmd.specs.States.{state_of, moved_to}
use Rattle.pes_sections.proofs.Stretch.{Stretch, stretch-from, stretch-sizing}
use Rattle.pes_sections.proofs.Steps.{walk_start, walk_more, walk-on, turned, somewhere-start, somewhere-more}
use Rattle.pes_sections.proofs.Steps.{sizing-start, sizing-more, sizing-done}
use Rattle.pes_sections.proofs.measured.Goals as goal

pub start-s-requires : goal.start-s-requires
start-s-requires c = c.requires.coded

pub loop-i-init : goal.loop-i-init
loop-i-init c =
    let a = c.args in
    let ts = threads_of a.threads.now in
    let sizing = sizing-start ts (commands a.xs.now a.ys.now a.kinds.now) in (
      walk_start ts c.list_len-n.ensures c.requires.kinds_len_bound c.start-s.ensures,
      (rw c.start-s.ensures (somewhere-start sizing), (omega arith, omega arith)),
    )

pub bounds-kinds-i : goal.bounds-kinds-i
bounds-kinds-i c = omega arith

pub run_end-end-requires : goal.run_end-end-requires
run_end-end-requires c = omega arith

pub overflow_sub-bytes : goal.overflow_sub-bytes
overflow_sub-bytes c =
    let stretch : (
    let a = c.args in
    Stretch c.run_end-end.result a.xs.now a.ys.now a.kinds.now c.loop-i.i c.loop-i.s.before) = let is_new = c.is_new-new in
    stretch-from (omega arith) is_new.ensures (c.goes_on.ensures c.if-goes_on.true) c.run_end-end.ensures in
    omega (arith, stretch)

pub overflow_mul-bytes : goal.overflow_mul-bytes
overflow_mul-bytes c =
    let stretch : (
    let a = c.args in
    Stretch c.run_end-end.result a.xs.now a.ys.now a.kinds.now c.loop-i.i c.loop-i.s.before) = let is_new = c.is_new-new in
    stretch-from (omega arith) is_new.ensures (c.goes_on.ensures c.if-goes_on.true) c.run_end-end.ensures in
    omega (arith, stretch)

pub overflow_add-bytes : goal.overflow_add-bytes
overflow_add-bytes c =
    let stretch : (
    let a = c.args in
    Stretch c.run_end-end.result a.xs.now a.ys.now a.kinds.now c.loop-i.i c.loop-i.s.before) = let is_new = c.is_new-new in
    stretch-from (omega arith) is_new.ensures (c.goes_on.ensures c.if-goes_on.true) c.run_end-end.ensures in
    omega (arith, stretch)

pub loop-i-smaller-then-goes_on : goal.loop-i-smaller-then-goes_on
loop-i-smaller-then-goes_on c =
    let stretch : (
    let a = c.args in
    Stretch c.run_end-end.result a.xs.now a.ys.now a.kinds.now c.loop-i.i c.loop-i.s.before) = let is_new = c.is_new-new in
    stretch-from (omega arith) is_new.ensures (c.goes_on.ensures c.if-goes_on.true) c.run_end-end.ensures in
    omega (arith, stretch)

pub loop-i-preserved-then-goes_on : goal.loop-i-preserved-then-goes_on
loop-i-preserved-then-goes_on c =
    let stretch : (
    let a = c.args in
    Stretch c.run_end-end.result a.xs.now a.ys.now a.kinds.now c.loop-i.i c.loop-i.s.before) = let is_new = c.is_new-new in
    stretch-from (omega arith) is_new.ensures (c.goes_on.ensures c.if-goes_on.true) c.run_end-end.ensures in
    let ts = threads_of c.args.threads.now in
    let w = stretch in
    let some = c.loop-i.invariant.1.0 in
    let sizing = stretch-sizing (moved_to (state_of c.loop-i.s) some.x some.y) w ts some.there in
    (walk-on c.loop-i.invariant.0 w.some _ _, (record { x = _; y = _; there = sizing }, (omega arith, omega arith)))

pub overflow_add-bytes-in-loop-i : goal.overflow_add-bytes-in-loop-i
overflow_add-bytes-in-loop-i c = omega arith

pub overflow_add-logged : goal.overflow_add-logged
overflow_add-logged c = omega arith

pub offset_bounds-xs-i : goal.offset_bounds-xs-i
offset_bounds-xs-i c = omega arith

pub bounds-xs-i : goal.bounds-xs-i
bounds-xs-i c = omega arith

pub offset_bounds-ys-i : goal.offset_bounds-ys-i
offset_bounds-ys-i c = omega arith

pub bounds-ys-i : goal.bounds-ys-i
bounds-ys-i c = omega arith

pub next-s-requires : goal.next-s-requires
next-s-requires c = record { coded = c.requires.coded; thread_bound = omega arith }

pub overflow_add-i : goal.overflow_add-i
overflow_add-i c = omega arith

pub loop-i-smaller : goal.loop-i-smaller
loop-i-smaller c = omega arith

pub loop-i-preserved : goal.loop-i-preserved
loop-i-preserved c =
    let loop = c.loop-i in
    let a = c.args in
    let s = state_of loop.s in
    let new = c.is_new-new.ensures in
    let log = rw new at c.is_logged-log.ensures in
    let cmd-len = c.cmd_len-bytes.ensures in
    let one-if = c.one_if-logged.ensures in
    let last = rw log at c.last_code-last.ensures in
    let turn = turned new c.next-arg-1.given c.next-arg-in-loop-i-1.given c.next-s.ensures in (
      walk_more turn loop.invariant.0,
      (
        rw (rw new at cmd-len.0, rw log at one-if.0, last) (somewhere-more turn
            (λ x y w. sizing-more a.xs.now a.ys.now a.kinds.now loop.i (moved_to s x y) (threads_of a.threads.now) (omega arith) w)
            loop.invariant.1.0),
        (omega (arith, cmd-len.1), omega (arith, one-if.1)),
      ),
    )

pub returns : goal.returns
returns c = let a = c.args in
    let cs = commands a.xs.now a.ys.now a.kinds.now in
    sizing-done (threads_of a.threads.now) cs c.loop-i.i (omega arith) _ c.loop-i.invariant.1.0.there
