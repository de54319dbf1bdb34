-- Two steps, one after the other.
use borrow.Author.Rules.{rules}
use native.Mathlib.Omega.{arith}
use Rattle.rules.specs.Dst.{dst_bytes, dst_cmd}
use Rattle.laws.specs.Buffers.{put-put}
use Rattle.stream_cmd.specs.Cmds.{most}
use Rattle.stream.proofs.Stream.{stepped, near_step, stepped-small}
use Rattle.stream.proofs.triples.put_two.Goals as goal

pub step-requires : goal.step-requires
unfolding most dst_bytes
step-requires c = search (rules, near_step)

pub step-requires-2 : goal.step-requires-2
unfolding most dst_bytes
step-requires-2 c = search (rules, near_step)

pub put_move-second-requires : goal.put_move-second-requires
unfolding most dst_bytes
put_move-second-requires c = record { kind_bound = (omega arith, record { x = search stepped-small; y = search stepped-small }); tables = search rules; at_in_bounds = omega arith }

pub step-requires-3 : goal.step-requires-3
unfolding most dst_bytes
step-requires-3 c = search (rules, near_step)

pub step-requires-4 : goal.step-requires-4
unfolding most dst_bytes
step-requires-4 c = search (rules, near_step)

pub put_move-requires : goal.put_move-requires
unfolding most dst_bytes
put_move-requires c = record { kind_bound = (omega arith, record { x = search stepped-small; y = search stepped-small }); tables = search rules; at_in_bounds = omega arith }

pub returns : goal.returns
unfolding dst_cmd
returns c =
    let f = c.ranges in
    let dx = stepped c.step.type_inv c.step.ensures f.nx f.x in let dy = stepped c.step-2.type_inv c.step-2.ensures f.ny f.y in
    let ex = stepped c.step-3.type_inv c.step-3.ensures f.mx f.nx in let ey = stepped c.step-4.type_inv c.step-4.ensures f.my f.ny in
    put-put (rw (dx, dy) at c.put_move-second.ensures) (rw (ex, ey) at c.put_move.ensures)
