-- What stands before the stitches, the stitches, and a zero byte.
use mathlib.Core.Path.{◌≡◌}
use native.Mathlib.Omega.{arith}
use Rattle.laws.specs.Buffers.{put-put}
use Rattle.vp3.proofs.Numbers.{read, back-small}
use Rattle.vp3.proofs.Texts.{length-block}
use Rattle.vp3.proofs.blocks.put_block.Goals as goal

pub put_stitches-last-requires : goal.put_stitches-last-requires
put_stitches-last-requires c =
    let a = c.args in
    let near = c.requires.wide.1 in
    let x = back-small a.w.x (omega (arith, near.x)) in
    let y = back-small a.w.y (omega (arith, near.y)) in
    let put = c.put_block_head-stitches.ensures in
    record {
      from_le_end = c.requires.from_le_end;
      kinds_value = c.requires.kinds_value;
      x_bound = rw (x, y) (near.x, near.y);
      end_in_bounds = rw (x, y) (omega (arith, put.ends, put.same, length-block a.m a.w a.c, c.requires.end_in_bounds));
    }

pub put-requires : goal.put-requires
put-requires c =
    let starts : (let w = c.args.w in (read w.x ≡ w.x) × (read w.y ≡ w.y)) = let w = c.args.w in
    let near = c.requires.wide.1 in
    (back-small w.x (omega (arith, near.x)), back-small w.y (omega (arith, near.y))) in
    let a = c.args in
    let put = c.put_block_head-stitches.ensures in
    let puts = rw (starts.0, starts.1) at c.put_stitches-last.ensures in
    omega (arith, put.ends, put.same, puts.ends, puts.same, length-block a.m a.w a.c, c.requires.end_in_bounds)

pub returns : goal.returns
returns c =
    let starts : (let w = c.args.w in (read w.x ≡ w.x) × (read w.y ≡ w.y)) = let w = c.args.w in
    let near = c.requires.wide.1 in
    (back-small w.x (omega (arith, near.x)), back-small w.y (omega (arith, near.y))) in
    put-put (put-put c.put_block_head-stitches.ensures (rw (starts.0, starts.1) at c.put_stitches-last.ensures)) c.put.ensures
