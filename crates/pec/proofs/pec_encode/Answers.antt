-- What is written is as far as the place; what comes is what the commands left take, from the place of the last.
use mathlib.Core.Path.{refl}
use native.Mathlib.Omega.{arith}
use lib.IntN.{pos}
use Rattle.rules.specs.Lists.{commands}
use Rattle.rules.specs.Pec.{pec_start, pec_stitches}
use Rattle.laws.specs.Buffers.{writing_start, writing_more, writing-done}
use Rattle.pec.proofs.Turns.{Took, Run, walk_start, no_bytes, here, next-step, took-step, cmd-bytes, going-bytes, cmd-room, going-room, walk-next, walk-still}
use Rattle.pec.proofs.Turns.{looks_on, finds, run-some, run_room, run-leaves, walk-run, turns-run, turns_next}
use Rattle.pec.proofs.pec_encode.Goals as goal

pub loop-i-init : goal.loop-i-init
loop-i-init c =
    let a = c.args in
    let whole = pec_stitches pec_start (pos 0) (pos 0) (commands a.xs.now a.ys.now a.kinds.now) in
    let walk = walk_start a.xs.now a.ys.now a.kinds.now c.list_len-n.ensures c.start-s.ensures c.requires.kinds_value in
    (walk, (rw c.start-s.ensures (writing_start a.out.now a.at whole c.requires.kinds_in_bounds), omega arith))

pub short_till-end-requires : goal.short_till-end-requires
short_till-end-requires c = let loop = c.loop-i in
    let some = (looks_on loop.invariant.0 loop.wait c.looks.ensures c.if-looks.true).some in
    record { i_nonzero = (some, omega (arith, loop.invariant.0.count)); kinds_value = c.requires.kinds_value }

pub put_shorts-to-requires : goal.put_shorts-to-requires
put_shorts-to-requires c =
    let run : (
    let a = c.args in
    let loop = c.loop-i in
    Run a.xs.now a.ys.now a.kinds.now c.list_len-n.result loop.i loop.s loop.last loop.wait c.short_till-end.result) = let loop = c.loop-i in
    finds loop.invariant.0 loop.wait c.looks.ensures c.if-looks.true c.short_till-end.ensures in
    let r = run in
    record { i_nonzero = (r.behind.some, (r.ahead, r.inside)); shorts = r.short; i_in_bounds = run_room r refl c.loop-i.invariant.1.0 }

pub overflow_sub-end : goal.overflow_sub-end
overflow_sub-end c =
    let run : (
    let a = c.args in
    let loop = c.loop-i in
    Run a.xs.now a.ys.now a.kinds.now c.list_len-n.result loop.i loop.s loop.last loop.wait c.short_till-end.result) = let loop = c.loop-i in
    finds loop.invariant.0 loop.wait c.looks.ensures c.if-looks.true c.short_till-end.ensures in
    run-some run

pub loop-i-smaller-then-looks : goal.loop-i-smaller-then-looks
loop-i-smaller-then-looks c =
    let run : (
    let a = c.args in
    let loop = c.loop-i in
    Run a.xs.now a.ys.now a.kinds.now c.list_len-n.result loop.i loop.s loop.last loop.wait c.short_till-end.result) = let loop = c.loop-i in
    finds loop.invariant.0 loop.wait c.looks.ensures c.if-looks.true c.short_till-end.ensures in
    turns-run run

pub loop-i-preserved-then-looks : goal.loop-i-preserved-then-looks
loop-i-preserved-then-looks c =
    let run : (
    let a = c.args in
    let loop = c.loop-i in
    Run a.xs.now a.ys.now a.kinds.now c.list_len-n.result loop.i loop.s loop.last loop.wait c.short_till-end.result) = let loop = c.loop-i in
    finds loop.invariant.0 loop.wait c.looks.ensures c.if-looks.true c.short_till-end.ensures in
    let r = run in
    let inv = c.loop-i.invariant in
    let wrote = writing_more inv.1.0 (run-leaves r c.cmd_at-last.ensures) c.put_shorts-to.ensures in
    (walk-run r c.cmd_at-last.ensures c.requires.kinds_value, (wrote, omega (arith, c.put_shorts-to.ensures.ends, inv.1.1)))

pub cmd_at-c-requires : goal.cmd_at-c-requires
cmd_at-c-requires c = here c.loop-i.invariant.0 c.loop-i-test.true

pub step_to-by-requires : goal.step_to-by-requires
step_to-by-requires c =
    next-step c.loop-i.invariant.0 c.loop-i-test.true c.cmd_at-c.ensures

pub overflow_add-i : goal.overflow_add-i
overflow_add-i c = omega arith

pub put_steps-to-requires : goal.put_steps-to-requires
put_steps-to-requires c =
    let took : (
    let a = c.args in
    let loop = c.loop-i in
    Took a.xs.now a.ys.now a.kinds.now c.list_len-n.result loop.i loop.s loop.last c.cmd_at-c.result c.step_to-by.result) = record { walk = c.loop-i.invariant.0; inside = c.loop-i-test.true; is = c.cmd_at-c.ensures; step = c.step_to-by.ensures } in
    let t = took in
    let inv = c.loop-i.invariant in
    record { step = took-step t; dy_in_bounds = going-room t inv.1.0 c.is_going.ensures c.if-is_going.true }

pub loop-i-smaller-then-is_going : goal.loop-i-smaller-then-is_going
loop-i-smaller-then-is_going c =
    let took : (
    let a = c.args in
    let loop = c.loop-i in
    Took a.xs.now a.ys.now a.kinds.now c.list_len-n.result loop.i loop.s loop.last c.cmd_at-c.result c.step_to-by.result) = record { walk = c.loop-i.invariant.0; inside = c.loop-i-test.true; is = c.cmd_at-c.ensures; step = c.step_to-by.ensures } in
    turns_next took c.loop-i.wait c.saturating_sub-wait.result

pub loop-i-preserved-then-is_going : goal.loop-i-preserved-then-is_going
loop-i-preserved-then-is_going c =
    let took : (
    let a = c.args in
    let loop = c.loop-i in
    Took a.xs.now a.ys.now a.kinds.now c.list_len-n.result loop.i loop.s loop.last c.cmd_at-c.result c.step_to-by.result) = record { walk = c.loop-i.invariant.0; inside = c.loop-i-test.true; is = c.cmd_at-c.ensures; step = c.step_to-by.ensures } in
    let t = took in
    let inv = c.loop-i.invariant in
    let e = going-bytes t c.is_going.ensures c.if-is_going.true in
    (walk-still t, (writing_more inv.1.0 e c.put_steps-to.ensures, omega (arith, c.put_steps-to.ensures.ends, inv.1.1)))

pub put_cmd-to-requires : goal.put_cmd-to-requires
put_cmd-to-requires c =
    let took : (
    let a = c.args in
    let loop = c.loop-i in
    Took a.xs.now a.ys.now a.kinds.now c.list_len-n.result loop.i loop.s loop.last c.cmd_at-c.result c.step_to-by.result) = record { walk = c.loop-i.invariant.0; inside = c.loop-i-test.true; is = c.cmd_at-c.ensures; step = c.step_to-by.ensures } in
    let t = took in
    let inv = c.loop-i.invariant in
    record { step = took-step t; dy_in_bounds = omega (arith, cmd-room t inv.1.0 c.op_of-op.ensures, inv.1.1) }

pub loop-i-smaller : goal.loop-i-smaller
loop-i-smaller c =
    let took : (
    let a = c.args in
    let loop = c.loop-i in
    Took a.xs.now a.ys.now a.kinds.now c.list_len-n.result loop.i loop.s loop.last c.cmd_at-c.result c.step_to-by.result) = record { walk = c.loop-i.invariant.0; inside = c.loop-i-test.true; is = c.cmd_at-c.ensures; step = c.step_to-by.ensures } in
    turns_next took c.loop-i.wait c.saturating_sub-wait.result

pub loop-i-preserved : goal.loop-i-preserved
loop-i-preserved c =
    let took : (
    let a = c.args in
    let loop = c.loop-i in
    Took a.xs.now a.ys.now a.kinds.now c.list_len-n.result loop.i loop.s loop.last c.cmd_at-c.result c.step_to-by.result) = record { walk = c.loop-i.invariant.0; inside = c.loop-i-test.true; is = c.cmd_at-c.ensures; step = c.step_to-by.ensures } in
    let t = took in
    let inv = c.loop-i.invariant in
    let put = c.put_cmd-to.ensures in
    let wrote = writing_more inv.1.0 (cmd-bytes t c.op_of-op.ensures) put in
    (walk-next t c.next-s.result _ c.next-s.ensures, (rw c.next-s.ensures wrote, omega (arith, put.ends, inv.1.1)))

pub shape_of-out : goal.shape_of-out
shape_of-out c = c.loop-i.invariant.1.0.same

pub returns : goal.returns
returns c = let a = c.args in
    let loop = c.loop-i in
    writing-done loop.invariant.1.0 (no_bytes (commands a.xs.now a.ys.now a.kinds.now) loop.i _ _ _ (omega (arith, loop.invariant.0.count)))
