-- What is counted and what the commands left take come to the whole.
use mathlib.Core.Path.{ap}
use native.Mathlib.Omega.{arith}
use lib.ListN.{length, length-append}
use Rattle.rules.specs.Lists.{commands}
use Rattle.pec_cmd.specs.States.{state_of}
use Rattle.pec.proofs.Turns.{Took, Run, walk_start, no_bytes, here, few, next-step, cmd-bytes, going-bytes, walk-next, walk-still, looks_on, finds, run-some}
use Rattle.pec.proofs.Turns.{run-few, length_run, run-leaves, walk-run, turns-run, turns_next}
use Rattle.pec.proofs.pec_len.Goals as goal

pub loop-i-init : goal.loop-i-init
loop-i-init c =
    let a = c.args in
    (walk_start a.xs.now a.ys.now a.kinds.now c.list_len-n.ensures c.start-s.ensures c.requires.1, (omega arith, rw c.start-s.ensures (omega arith)))

pub short_till-end-requires : goal.short_till-end-requires
short_till-end-requires c = let loop = c.loop-i in
    let some = (looks_on loop.invariant.0 loop.wait c.looks.ensures c.if-looks.true).some in
    record { i_nonzero = (some, omega (arith, loop.invariant.0.count)); kinds_value = c.requires.1 }

pub overflow_sub-total : goal.overflow_sub-total
overflow_sub-total c =
    let run : (
    let a = c.args in
    let loop = c.loop-i in
    Run a.xs.now a.ys.now a.kinds.now c.list_len-n.result loop.i loop.s loop.last loop.wait c.short_till-end.result) = let loop = c.loop-i in
    finds loop.invariant.0 loop.wait c.looks.ensures c.if-looks.true c.short_till-end.ensures in
    omega (arith, run.ahead)

pub overflow_mul-total : goal.overflow_mul-total
overflow_mul-total c =
    let run : (
    let a = c.args in
    let loop = c.loop-i in
    Run a.xs.now a.ys.now a.kinds.now c.list_len-n.result loop.i loop.s loop.last loop.wait c.short_till-end.result) = let loop = c.loop-i in
    finds loop.invariant.0 loop.wait c.looks.ensures c.if-looks.true c.short_till-end.ensures in
    omega (arith, run-few run, c.requires.0)

pub overflow_add-total : goal.overflow_add-total
overflow_add-total c =
    let run : (
    let a = c.args in
    let loop = c.loop-i in
    Run a.xs.now a.ys.now a.kinds.now c.list_len-n.result loop.i loop.s loop.last loop.wait c.short_till-end.result) = let loop = c.loop-i in
    finds loop.invariant.0 loop.wait c.looks.ensures c.if-looks.true c.short_till-end.ensures in
    omega (arith, run-few run, run.ahead, c.loop-i.invariant.1.0, c.requires.0)

pub overflow_sub-end : goal.overflow_sub-end
overflow_sub-end c =
    let run : (
    let a = c.args in
    let loop = c.loop-i in
    Run a.xs.now a.ys.now a.kinds.now c.list_len-n.result loop.i loop.s loop.last loop.wait c.short_till-end.result) = let loop = c.loop-i in
    finds loop.invariant.0 loop.wait c.looks.ensures c.if-looks.true c.short_till-end.ensures in
    run-some run

pub cmd_at-last-requires : goal.cmd_at-last-requires
cmd_at-last-requires c =
    let run : (
    let a = c.args in
    let loop = c.loop-i in
    Run a.xs.now a.ys.now a.kinds.now c.list_len-n.result loop.i loop.s loop.last loop.wait c.short_till-end.result) = let loop = c.loop-i in
    finds loop.invariant.0 loop.wait c.looks.ensures c.if-looks.true c.short_till-end.ensures in
    omega (arith, run-some run, run.inside)

pub loop-i-smaller-then-looks : goal.loop-i-smaller-then-looks
loop-i-smaller-then-looks c =
    let run : (
    let a = c.args in
    let loop = c.loop-i in
    Run a.xs.now a.ys.now a.kinds.now c.list_len-n.result loop.i loop.s loop.last loop.wait c.short_till-end.result) = let loop = c.loop-i in
    finds loop.invariant.0 loop.wait c.looks.ensures c.if-looks.true c.short_till-end.ensures in
    turns-run run

pub loop-i-preserved-then-looks : goal.loop-i-preserved-then-looks
loop-i-preserved-then-looks c =
    let run : (
    let a = c.args in
    let loop = c.loop-i in
    Run a.xs.now a.ys.now a.kinds.now c.list_len-n.result loop.i loop.s loop.last loop.wait c.short_till-end.result) = let loop = c.loop-i in
    finds loop.invariant.0 loop.wait c.looks.ensures c.if-looks.true c.short_till-end.ensures in
    let r = run in
    let e = simp length-append at (ap length (run-leaves r c.cmd_at-last.ensures)) in
    let inv = c.loop-i.invariant in
    (walk-run r c.cmd_at-last.ensures c.requires.1, (omega (arith, inv.1.0, r.ahead), omega (arith, e, length_run r, inv.1.1)))

pub cmd_at-c-requires : goal.cmd_at-c-requires
cmd_at-c-requires c = here c.loop-i.invariant.0 c.loop-i-test.true

pub step_to-by-requires : goal.step_to-by-requires
step_to-by-requires c =
    next-step c.loop-i.invariant.0 c.loop-i-test.true c.cmd_at-c.ensures

pub overflow_add-i : goal.overflow_add-i
overflow_add-i c = omega arith

pub overflow_add-total-then-is_going : goal.overflow_add-total-then-is_going
overflow_add-total-then-is_going c =
    let took : (
    let a = c.args in
    let loop = c.loop-i in
    Took a.xs.now a.ys.now a.kinds.now c.list_len-n.result loop.i loop.s loop.last c.cmd_at-c.result c.step_to-by.result) = record { walk = c.loop-i.invariant.0; inside = c.loop-i-test.true; is = c.cmd_at-c.ensures; step = c.step_to-by.ensures } in
    omega (arith, few took, c.requires.0, c.loop-i.invariant.1.0, c.steps_len-total.ensures.1)

pub loop-i-smaller-then-is_going : goal.loop-i-smaller-then-is_going
loop-i-smaller-then-is_going c =
    let took : (
    let a = c.args in
    let loop = c.loop-i in
    Took a.xs.now a.ys.now a.kinds.now c.list_len-n.result loop.i loop.s loop.last c.cmd_at-c.result c.step_to-by.result) = record { walk = c.loop-i.invariant.0; inside = c.loop-i-test.true; is = c.cmd_at-c.ensures; step = c.step_to-by.ensures } in
    turns_next took c.loop-i.wait c.saturating_sub-wait.result

pub loop-i-preserved-then-is_going : goal.loop-i-preserved-then-is_going
loop-i-preserved-then-is_going c =
    let took : (
    let a = c.args in
    let loop = c.loop-i in
    Took a.xs.now a.ys.now a.kinds.now c.list_len-n.result loop.i loop.s loop.last c.cmd_at-c.result c.step_to-by.result) = record { walk = c.loop-i.invariant.0; inside = c.loop-i-test.true; is = c.cmd_at-c.ensures; step = c.step_to-by.ensures } in
    let t = took in
    let inv = c.loop-i.invariant in
    let e = simp length-append at (ap length (going-bytes t c.is_going.ensures c.if-is_going.true)) in
    (walk-still t, (omega (arith, c.steps_len-total.ensures.1, inv.1.0), omega (arith, simp length-append at c.steps_len-total.ensures.0, e, inv.1.1)))

pub overflow_add-total-in-loop-i : goal.overflow_add-total-in-loop-i
overflow_add-total-in-loop-i c =
    let took : (
    let a = c.args in
    let loop = c.loop-i in
    Took a.xs.now a.ys.now a.kinds.now c.list_len-n.result loop.i loop.s loop.last c.cmd_at-c.result c.step_to-by.result) = record { walk = c.loop-i.invariant.0; inside = c.loop-i-test.true; is = c.cmd_at-c.ensures; step = c.step_to-by.ensures } in
    omega (arith, few took, c.requires.0, c.loop-i.invariant.1.0, c.cmd_len-total.ensures.1)

pub loop-i-smaller : goal.loop-i-smaller
loop-i-smaller c =
    let took : (
    let a = c.args in
    let loop = c.loop-i in
    Took a.xs.now a.ys.now a.kinds.now c.list_len-n.result loop.i loop.s loop.last c.cmd_at-c.result c.step_to-by.result) = record { walk = c.loop-i.invariant.0; inside = c.loop-i-test.true; is = c.cmd_at-c.ensures; step = c.step_to-by.ensures } in
    turns_next took c.loop-i.wait c.saturating_sub-wait.result

pub loop-i-preserved : goal.loop-i-preserved
loop-i-preserved c =
    let took : (
    let a = c.args in
    let loop = c.loop-i in
    Took a.xs.now a.ys.now a.kinds.now c.list_len-n.result loop.i loop.s loop.last c.cmd_at-c.result c.step_to-by.result) = record { walk = c.loop-i.invariant.0; inside = c.loop-i-test.true; is = c.cmd_at-c.ensures; step = c.step_to-by.ensures } in
    let t = took in
    let inv = c.loop-i.invariant in
    let e = simp length-append at (ap length (cmd-bytes t c.op_of-op.ensures)) in
    let len = c.cmd_len-total.ensures in
    (walk-next t c.next-s.result _ c.next-s.ensures, (omega (arith, len.1, inv.1.0), rw c.next-s.ensures (omega (arith, e, len.0, inv.1.1))))

pub returns : goal.returns
returns c = let a = c.args in
    let loop = c.loop-i in
    let none = no_bytes (commands a.xs.now a.ys.now a.kinds.now) loop.i (state_of loop.s) loop.last.x loop.last.y (omega (arith, loop.invariant.0.count)) in
    omega (arith, ap length none, loop.invariant.1.1)
