-- What is written is as far as the place; what comes is what the blocks left take.
use Prim.Native.Nat.{◌≤◌, ◌<◌}
use native.Mathlib.Omega.{arith}
use lib.ListN.{length, get_or}
use mir.Syntax.{w32}
use mir.Val.{to_z}
use Rattle.rules.specs.Lists.{commands, threads_of}
use Rattle.laws.specs.Listing.{length-commands}
use Rattle.vp3.proofs.Numbers.{read}
use Rattle.laws.specs.Lengths.{length-blocks}
use Rattle.vp3.proofs.Listings.{Block, block-found}
use Rattle.vp3.proofs.Layings.{laying-start, laying-some, laying-end, laying-within, laying-little, laying-room, laying-on, laying-done, listed-room}
use Rattle.vp3.proofs.blocks.put_blocks.Goals as goal

pub loop-k-init : goal.loop-k-init
loop-k-init c =
    let a = c.args in
    laying-start a.xs.now a.ys.now a.kinds.now (threads_of a.threads.now) a.m a.n a.ends.now a.lens.now a.out.now a.at
    c.requires.listed c.requires.kinds_in_bounds

pub offset_bounds-ends-k : goal.offset_bounds-ends-k
offset_bounds-ends-k c =
    let few : (let a = c.args in (a.n ≤ 255) × ((a.n ≤ length a.ends.now) × (a.n ≤ length a.lens.now))) = let a = c.args in
    let listed = c.requires.listed in
    let room = listed-room listed in
    (omega (arith, listed.blocks, length-blocks (commands a.xs.now a.ys.now a.kinds.now), c.requires.known.0.few), room) in
    let here : (
    let a = c.args in
    let k = c.loop-k.k in
    (k ≤ 254) × ((k < length a.ends.now) × (k < length a.lens.now))) = let f = few in (omega (arith, f.0), (omega (arith, f.1.0), omega (arith, f.1.1))) in
    omega (arith, here.0)

pub bounds-ends-k : goal.bounds-ends-k
bounds-ends-k c =
    let few : (let a = c.args in (a.n ≤ 255) × ((a.n ≤ length a.ends.now) × (a.n ≤ length a.lens.now))) = let a = c.args in
    let listed = c.requires.listed in
    let room = listed-room listed in
    (omega (arith, listed.blocks, length-blocks (commands a.xs.now a.ys.now a.kinds.now), c.requires.known.0.few), room) in
    let here : (
    let a = c.args in
    let k = c.loop-k.k in
    (k ≤ 254) × ((k < length a.ends.now) × (k < length a.lens.now))) = let f = few in (omega (arith, f.0), (omega (arith, f.1.0), omega (arith, f.1.1))) in
    here.1.0

pub end_of-to_x-requires : goal.end_of-to_x-requires
end_of-to_x-requires c =
    let ends : (
    let a = c.args in
    let end = get_or a.ends.now c.loop-k.k 0 in
    (c.loop-k.from ≤ end)
    × ((end ≤ length (commands a.xs.now a.ys.now a.kinds.now))
    × ((length (commands a.xs.now a.ys.now a.kinds.now) ≤ 65535) × (get_or a.lens.now c.loop-k.k 0 ≤ 524280)))) = let a = c.args in
    let g = c.loop-k.invariant in
    let t = c.loop-k-test.true in
    let short : length (commands a.xs.now a.ys.now a.kinds.now) ≤ 65535
    = omega (arith, length-commands a.xs.now a.ys.now a.kinds.now, c.requires.known.0.short) in
    (omega (arith, laying-end g t), (laying-within g t, (short, omega (arith, laying-little g t, short)))) in
    let within : (
    let a = c.args in
    let end = get_or a.ends.now c.loop-k.k 0 in
    (end ≤ length a.xs.now) × (end ≤ length a.ys.now)) = let a = c.args in
    let long = length-commands a.xs.now a.ys.now a.kinds.now in
    (omega (arith, ends.1.0, long), omega (arith, ends.1.0, long)) in
    (ends.0, within.0)

pub end_of-to_y-requires : goal.end_of-to_y-requires
end_of-to_y-requires c =
    let ends : (
    let a = c.args in
    let end = get_or a.ends.now c.loop-k.k 0 in
    (c.loop-k.from ≤ end)
    × ((end ≤ length (commands a.xs.now a.ys.now a.kinds.now))
    × ((length (commands a.xs.now a.ys.now a.kinds.now) ≤ 65535) × (get_or a.lens.now c.loop-k.k 0 ≤ 524280)))) = let a = c.args in
    let g = c.loop-k.invariant in
    let t = c.loop-k-test.true in
    let short : length (commands a.xs.now a.ys.now a.kinds.now) ≤ 65535
    = omega (arith, length-commands a.xs.now a.ys.now a.kinds.now, c.requires.known.0.short) in
    (omega (arith, laying-end g t), (laying-within g t, (short, omega (arith, laying-little g t, short)))) in
    let within : (
    let a = c.args in
    let end = get_or a.ends.now c.loop-k.k 0 in
    (end ≤ length a.xs.now) × (end ≤ length a.ys.now)) = let a = c.args in
    let long = length-commands a.xs.now a.ys.now a.kinds.now in
    (omega (arith, ends.1.0, long), omega (arith, ends.1.0, long)) in
    (ends.0, within.1)

pub offset_bounds-lens-k : goal.offset_bounds-lens-k
offset_bounds-lens-k c =
    let few : (let a = c.args in (a.n ≤ 255) × ((a.n ≤ length a.ends.now) × (a.n ≤ length a.lens.now))) = let a = c.args in
    let listed = c.requires.listed in
    let room = listed-room listed in
    (omega (arith, listed.blocks, length-blocks (commands a.xs.now a.ys.now a.kinds.now), c.requires.known.0.few), room) in
    let here : (
    let a = c.args in
    let k = c.loop-k.k in
    (k ≤ 254) × ((k < length a.ends.now) × (k < length a.lens.now))) = let f = few in (omega (arith, f.0), (omega (arith, f.1.0), omega (arith, f.1.1))) in
    omega (arith, here.0)

pub bounds-lens-k : goal.bounds-lens-k
bounds-lens-k c =
    let few : (let a = c.args in (a.n ≤ 255) × ((a.n ≤ length a.ends.now) × (a.n ≤ length a.lens.now))) = let a = c.args in
    let listed = c.requires.listed in
    let room = listed-room listed in
    (omega (arith, listed.blocks, length-blocks (commands a.xs.now a.ys.now a.kinds.now), c.requires.known.0.few), room) in
    let here : (
    let a = c.args in
    let k = c.loop-k.k in
    (k ≤ 254) × ((k < length a.ends.now) × (k < length a.lens.now))) = let f = few in (omega (arith, f.0), (omega (arith, f.1.0), omega (arith, f.1.1))) in
    here.1.1

pub thread-requires : goal.thread-requires
thread-requires c =
    let few : (let a = c.args in (a.n ≤ 255) × ((a.n ≤ length a.ends.now) × (a.n ≤ length a.lens.now))) = let a = c.args in
    let listed = c.requires.listed in
    let room = listed-room listed in
    (omega (arith, listed.blocks, length-blocks (commands a.xs.now a.ys.now a.kinds.now), c.requires.known.0.few), room) in
    let here : (
    let a = c.args in
    let k = c.loop-k.k in
    (k ≤ 254) × ((k < length a.ends.now) × (k < length a.lens.now))) = let f = few in (omega (arith, f.0), (omega (arith, f.1.0), omega (arith, f.1.1))) in
    omega (arith, here.0)

pub put_block-to-requires : goal.put_block-to-requires
put_block-to-requires c =
    let ends : (
    let a = c.args in
    let end = get_or a.ends.now c.loop-k.k 0 in
    (c.loop-k.from ≤ end)
    × ((end ≤ length (commands a.xs.now a.ys.now a.kinds.now))
    × ((length (commands a.xs.now a.ys.now a.kinds.now) ≤ 65535) × (get_or a.lens.now c.loop-k.k 0 ≤ 524280)))) = let a = c.args in
    let g = c.loop-k.invariant in
    let t = c.loop-k-test.true in
    let short : length (commands a.xs.now a.ys.now a.kinds.now) ≤ 65535
    = omega (arith, length-commands a.xs.now a.ys.now a.kinds.now, c.requires.known.0.short) in
    (omega (arith, laying-end g t), (laying-within g t, (short, omega (arith, laying-little g t, short)))) in
    let block : (
    let a = c.args in
    Block a.xs.now a.ys.now a.kinds.now c.loop-k.from (to_z w32 c.loop-k.x-bits) (to_z w32 c.loop-k.y-bits)
    (get_or a.ends.now c.loop-k.k 0) (read c.end_of-to_x.result) (read c.end_of-to_y.result)) = let a = c.args in
    let g = c.loop-k.invariant in
    let t = c.loop-k-test.true in
    block-found a.xs.now a.ys.now a.kinds.now _ _ _ _ _ _ c.requires.known.0.placed (laying-some g t) g.across g.down
    (laying-end g t) c.end_of-to_x.ensures c.end_of-to_y.ensures in
    let g = c.loop-k.invariant in
    let e = ends in
    let b = block in record { from_le_end = (e.0, e.1.0); kinds_value = c.requires.known.0.placed; wide = (c.requires.known.1, record { x = g.across; y = g.down; to_x = b.across; to_y = b.down; len = omega (arith, e.1.1.1) }); end_in_bounds = laying-room g c.loop-k-test.true b c.thread.ensures }

pub overflow_add-from : goal.overflow_add-from
overflow_add-from c =
    let ends : (
    let a = c.args in
    let end = get_or a.ends.now c.loop-k.k 0 in
    (c.loop-k.from ≤ end)
    × ((end ≤ length (commands a.xs.now a.ys.now a.kinds.now))
    × ((length (commands a.xs.now a.ys.now a.kinds.now) ≤ 65535) × (get_or a.lens.now c.loop-k.k 0 ≤ 524280)))) = let a = c.args in
    let g = c.loop-k.invariant in
    let t = c.loop-k-test.true in
    let short : length (commands a.xs.now a.ys.now a.kinds.now) ≤ 65535
    = omega (arith, length-commands a.xs.now a.ys.now a.kinds.now, c.requires.known.0.short) in
    (omega (arith, laying-end g t), (laying-within g t, (short, omega (arith, laying-little g t, short)))) in
    omega (arith, ends)

pub loop-k-preserved : goal.loop-k-preserved
loop-k-preserved c =
    let block : (
    let a = c.args in
    Block a.xs.now a.ys.now a.kinds.now c.loop-k.from (to_z w32 c.loop-k.x-bits) (to_z w32 c.loop-k.y-bits)
    (get_or a.ends.now c.loop-k.k 0) (read c.end_of-to_x.result) (read c.end_of-to_y.result)) = let a = c.args in
    let g = c.loop-k.invariant in
    let t = c.loop-k-test.true in
    block-found a.xs.now a.ys.now a.kinds.now _ _ _ _ _ _ c.requires.known.0.placed (laying-some g t) g.across g.down
    (laying-end g t) c.end_of-to_x.ensures c.end_of-to_y.ensures in
    laying-on c.loop-k.invariant c.loop-k-test.true block c.thread.ensures c.put_block-to.ensures

pub shape_of-out : goal.shape_of-out
shape_of-out c = c.loop-k.invariant.writing.same

pub returns : goal.returns
returns c = laying-done c.loop-k.invariant c.loop-k-test.false
