-- The head, and then what comes is the rows of the commands that are left.
use borrow.Author.Rules.{rules}
use native.Mathlib.Omega.{arith}
use Rattle.rules.specs.Vocabulary.{little}
use Rattle.laws.specs.Buffers.{put-put, put_as}
use Rattle.export_job.proofs.Fields.{row-start, row_in, row_near, row_room, row_on, row_done, field_is}
use Rattle.export_job.proofs.put_commands.Goals as goal

pub overflow_sub-len : goal.overflow_sub-len
overflow_sub-len c = omega arith

pub overflow_mul-len : goal.overflow_mul-len
overflow_mul-len c = omega arith

pub put-head-requires : goal.put-head-requires
unfolding little
put-head-requires c = search rules

pub put_short-to-requires : goal.put_short-to-requires
unfolding little
put_short-to-requires c = search rules

pub loop-k-init : goal.loop-k-init
unfolding little
loop-k-init c =
    let pre = c.requires in
    row-start _ _ _ _ _ _ _ pre.known.places pre.i_le_e.0 pre.i_le_e.1.1 (omega (arith, c.put-head.ensures, c.put_short-to.ensures, pre.i_in_bounds))

pub bounds-kinds-k : goal.bounds-kinds-k
bounds-kinds-k c = (row_in c.loop-k.invariant c.loop-k-test.true).kind

pub offset_bounds-xs-k : goal.offset_bounds-xs-k
offset_bounds-xs-k c = omega (arith, row_in c.loop-k.invariant c.loop-k-test.true)

pub bounds-xs-k : goal.bounds-xs-k
bounds-xs-k c = (row_in c.loop-k.invariant c.loop-k-test.true).across

pub offset_bounds-ys-k : goal.offset_bounds-ys-k
offset_bounds-ys-k c = omega (arith, row_in c.loop-k.invariant c.loop-k-test.true)

pub bounds-ys-k : goal.bounds-ys-k
bounds-ys-k c = (row_in c.loop-k.invariant c.loop-k-test.true).down

pub put_row-to-requires : goal.put_row-to-requires
put_row-to-requires c = record { x_bound = row_near c.loop-k.invariant c.loop-k-test.true; at_in_bounds = row_room c.loop-k.invariant c.loop-k-test.true }

pub loop-k-preserved : goal.loop-k-preserved
loop-k-preserved c =
    row_on c.loop-k.invariant c.loop-k-test.true c.put_row-to.ensures

pub returns : goal.returns
returns c =
    put_as
    (put-put (put-put c.put-head.ensures c.put_short-to.ensures) (row_done c.loop-k.invariant c.loop-k-test.false))
    (field_is _ _ _ _ _ c.requires.i_le_e.0 c.requires.i_le_e.1.1)
