-- Two steps, one after the other.
use borrow.Author.Rules.{rules}
use Rattle.rules.specs.Exp.{pair_of}
use Rattle.laws.specs.Buffers.{put-put}
use Rattle.stream_cmd.specs.Cmds.{most}
use Rattle.stream.proofs.Stream.{stepped, near_step, stepped-small}
use Rattle.stream.proofs.pairs.put_two.Goals as goal

pub step-requires : goal.step-requires
unfolding most pair_of
step-requires c = search (rules, near_step)

pub step-requires-2 : goal.step-requires-2
unfolding most pair_of
step-requires-2 c = search (rules, near_step)

pub put_pair-second-requires : goal.put_pair-second-requires
unfolding most pair_of
put_pair-second-requires c = search (rules, stepped-small)

pub step-requires-3 : goal.step-requires-3
unfolding most pair_of
step-requires-3 c = search (rules, near_step)

pub step-requires-4 : goal.step-requires-4
unfolding most pair_of
step-requires-4 c = search (rules, near_step)

pub put_pair-requires : goal.put_pair-requires
unfolding most pair_of
put_pair-requires c = search (rules, stepped-small)

pub returns : goal.returns
returns c =
    let f = c.ranges in
    let dx = stepped c.step.type_inv c.step.ensures f.nx f.x in let dy = stepped c.step-2.type_inv c.step-2.ensures f.ny f.y in
    let ex = stepped c.step-3.type_inv c.step-3.ensures f.mx f.nx in let ey = stepped c.step-4.type_inv c.step-4.ensures f.my f.ny in
    put-put (rw (dx, dy) at c.put_pair-second.ensures) (rw (ex, ey) at c.put_pair.ensures)
