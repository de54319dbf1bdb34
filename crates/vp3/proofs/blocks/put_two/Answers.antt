-- Two steps, one after the other.
use native.Mathlib.Omega.{arith}
use Rattle.laws.specs.Buffers.{put-put}
use Rattle.vp3.proofs.Pairs.{stepped, step-room}
use Rattle.vp3.proofs.blocks.put_two.Goals as goal

pub step-requires : goal.step-requires
step-requires c = let f = c.ranges in let k = c.requires.close in step-room _ _ f.nx f.x k.1.0.0 k.0.0

pub step-requires-2 : goal.step-requires-2
step-requires-2 c = let f = c.ranges in let k = c.requires.close in step-room _ _ f.ny f.y k.1.0.1 k.0.1

pub step-requires-3 : goal.step-requires-3
step-requires-3 c = let f = c.ranges in let k = c.requires.close in step-room _ _ f.mx f.nx k.1.1.0 k.1.0.0

pub step-requires-4 : goal.step-requires-4
step-requires-4 c = let f = c.ranges in let k = c.requires.close in step-room _ _ f.my f.ny k.1.1.1 k.1.0.1

pub returns : goal.returns
returns c =
    let f = c.ranges in
    let k = c.requires.close in
    let dx = stepped f.nx f.x k.1.0.0 k.0.0 c.step.ensures in let dy = stepped f.ny f.y k.1.0.1 k.0.1 c.step-2.ensures in
    let ex = stepped f.mx f.nx k.1.1.0 k.1.0.0 c.step-3.ensures in let ey = stepped f.my f.ny k.1.1.1 k.1.0.1 c.step-4.ensures in
    put-put (rw (dx.0, dy.0) at c.put_stitch-second.ensures) (rw (ex.0, ey.0) at c.put_stitch.ensures)

pub put_stitch-second-requires : goal.put_stitch-second-requires
put_stitch-second-requires c =
    let f = c.ranges in
    let k = c.requires.close in
    let dx = stepped f.nx f.x k.1.0.0 k.0.0 c.step.ensures in
    let dy = stepped f.ny f.y k.1.0.1 k.0.1 c.step-2.ensures in
    (dx.1, (dy.1, rw (dx.0, dy.0) (omega (arith, c.requires.ny_in_bounds))))

pub put_stitch-requires : goal.put_stitch-requires
put_stitch-requires c =
    let f = c.ranges in
    let k = c.requires.close in
    let dx = stepped f.nx f.x k.1.0.0 k.0.0 c.step.ensures in
    let dy = stepped f.ny f.y k.1.0.1 k.0.1 c.step-2.ensures in
    let ex = stepped f.mx f.nx k.1.1.0 k.1.0.0 c.step-3.ensures in
    let ey = stepped f.my f.ny k.1.1.1 k.1.0.1 c.step-4.ensures in
    let p = rw (dx.0, dy.0) at c.put_stitch-second.ensures in
    (ex.1, (ey.1, rw (ex.0, ey.0) (omega (arith, c.requires.ny_in_bounds, p.ends, p.same))))
