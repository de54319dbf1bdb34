-- Two steps, one after the other.
use native.Mathlib.Omega.{arith}
use Rattle.vp3.proofs.Pairs.{stepped, step-room}
use Rattle.vp3.proofs.blocks.two_len.Goals as goal

pub step-requires : goal.step-requires
step-requires c = let f = c.ranges in let k = c.requires in step-room _ _ f.nx f.x k.1.0.0 k.0.0

pub step-requires-2 : goal.step-requires-2
step-requires-2 c = let f = c.ranges in let k = c.requires in step-room _ _ f.ny f.y k.1.0.1 k.0.1

pub step-requires-3 : goal.step-requires-3
step-requires-3 c = let f = c.ranges in let k = c.requires in step-room _ _ f.mx f.nx k.1.1.0 k.1.0.0

pub step-requires-4 : goal.step-requires-4
step-requires-4 c = let f = c.ranges in let k = c.requires in step-room _ _ f.my f.ny k.1.1.1 k.1.0.1

pub returns : goal.returns
returns c = let f = c.ranges in
    let k = c.requires in
    let dx = stepped f.nx f.x k.1.0.0 k.0.0 c.step.ensures in let dy = stepped f.ny f.y k.1.0.1 k.0.1 c.step-2.ensures in
    let ex = stepped f.mx f.nx k.1.1.0 k.1.0.0 c.step-3.ensures in let ey = stepped f.my f.ny k.1.1.1 k.1.0.1 c.step-4.ensures in
    let p = rw (dx.0, dy.0) at c.stitch_len.ensures.0 in let q = rw (ex.0, ey.0) at c.stitch_len-2.ensures.0 in
    (omega (arith, p, q), omega (arith, c.stitch_len.ensures.1, c.stitch_len-2.ensures.1))
