-- What is written is as far as the place; what comes is the thumbnails of the blocks left.
use native.Mathlib.Omega.{arith}
use Rattle.rules.specs.Lists.{commands}
use Rattle.laws.specs.Buffers.{writing_start, writing-done}
use Rattle.laws.specs.Listing.{length-commands}
use Rattle.thumbnail_tables.specs.Blocks.{block_icons}
use Rattle.thumbnails.proofs.Ends.{end-le, icons-all, icons-none, block_room, block_more}
use Rattle.thumbnails.proofs.put_blocks.Goals as goal

pub loop-from-init : goal.loop-from-init
loop-from-init c = let a = c.args in
    let cs = commands a.xs.now a.ys.now a.kinds.now in
    (c.list_len-n.ensures, rw (← icons-all a.s cs) (writing_start a.out.now a.at (block_icons a.s cs) c.requires))

pub block_end-end-requires : goal.block_end-end-requires
block_end-end-requires c = omega arith

pub draw_scaled-requires : goal.draw_scaled-requires
draw_scaled-requires c = let a = c.args in
    let cs = commands a.xs.now a.ys.now a.kinds.now in
    (omega arith, omega (arith, end-le cs c.loop-from.from (omega arith)))

pub put_icon-to-requires : goal.put_icon-to-requires
put_icon-to-requires c = let block-end = c.block_end-end in let loop = c.loop-from in
    let a = c.args in
    let cs = commands a.xs.now a.ys.now a.kinds.now in
    block_room a.s cs loop.from block-end.result (omega arith) block-end.ensures loop.invariant.1

pub overflow_add-from : goal.overflow_add-from
overflow_add-from c = let loop = c.loop-from in
    let a = c.args in
    let cs = commands a.xs.now a.ys.now a.kinds.now in
    omega (arith, end-le cs loop.from (omega arith), length-commands a.xs.now a.ys.now a.kinds.now)

pub loop-from-smaller : goal.loop-from-smaller
loop-from-smaller c = omega arith

pub loop-from-preserved : goal.loop-from-preserved
loop-from-preserved c = let draw-scaled = c.draw_scaled in let block-end = c.block_end-end in
    let loop = c.loop-from in
    let a = c.args in
    let cs = commands a.xs.now a.ys.now a.kinds.now in
    (loop.invariant.0, block_more a.s cs loop.from block-end.result (omega arith) block-end.ensures loop.invariant.1 draw-scaled.ensures c.put_icon-to.ensures)

pub shape_of-out : goal.shape_of-out
shape_of-out c = c.loop-from.invariant.1.same

pub returns : goal.returns
returns c = let a = c.args in
    let cs = commands a.xs.now a.ys.now a.kinds.now in
    writing-done c.loop-from.invariant.1 (icons-none a.s cs c.loop-from.from (omega arith))
