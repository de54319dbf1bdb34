-- What is stored of the blocks so far, and what the blocks left give, come to the whole.
use Prim.Native.Nat.{◌≤◌}
use native.Mathlib.Omega.{arith}
use lib.ListN.{length}
use mir.Syntax.{w32}
use mir.Val.{to_z}
use Rattle.laws.specs.Listing.{length-commands}
use Rattle.vp3.proofs.Numbers.{read}
use Rattle.vp3.proofs.Listings.{Block, block-found, scanned-little, scanned-len, going_start, going-little, going-room, going_on, going_done}
use Rattle.vp3.proofs.blocks.scan_list.Goals as goal

pub loop-from-init : goal.loop-from-init
loop-from-init c =
    let a = c.args in
    going_start a.xs.now a.ys.now a.kinds.now a.ends.now a.lens.now c.list_len-n.ensures c.requires.known c.requires.in_bounds.0 c.requires.in_bounds.1

pub scan_block-s-requires : goal.scan_block-s-requires
scan_block-s-requires c = let known = c.requires.known in
    let inv = c.loop-from.invariant in
    record { kinds_len_bound = (known.short, omega (arith, inv.count)); kinds_value = known.placed; x_bound = (inv.across, inv.down) }

pub offset_bounds-ends-k : goal.offset_bounds-ends-k
offset_bounds-ends-k c =
    let few : (c.list_len-n.result ≤ 65535) × (c.loop-from.k ≤ 254) = let a = c.args in
    let inv = c.loop-from.invariant in
    let known = c.requires.known in
    (omega (arith, inv.count, length-commands a.xs.now a.ys.now a.kinds.now, known.short), going-room inv c.loop-from-test.true known) in
    omega (arith, few.1)

pub bounds-ends-k : goal.bounds-ends-k
bounds-ends-k c =
    let few : (c.list_len-n.result ≤ 65535) × (c.loop-from.k ≤ 254) = let a = c.args in
    let inv = c.loop-from.invariant in
    let known = c.requires.known in
    (omega (arith, inv.count, length-commands a.xs.now a.ys.now a.kinds.now, known.short), going-room inv c.loop-from-test.true known) in
    let room : (256 ≤ length c.loop-from.ends) × (256 ≤ length c.loop-from.lens) = let inv = c.loop-from.invariant in
    (omega (arith, inv.ends_are.same, c.requires.in_bounds.0), omega (arith, inv.lens_are.same, c.requires.in_bounds.1)) in
    omega (arith, few.1, room.0)

pub offset_bounds-lens-k : goal.offset_bounds-lens-k
offset_bounds-lens-k c =
    let few : (c.list_len-n.result ≤ 65535) × (c.loop-from.k ≤ 254) = let a = c.args in
    let inv = c.loop-from.invariant in
    let known = c.requires.known in
    (omega (arith, inv.count, length-commands a.xs.now a.ys.now a.kinds.now, known.short), going-room inv c.loop-from-test.true known) in
    omega (arith, few.1)

pub bounds-lens-k : goal.bounds-lens-k
bounds-lens-k c =
    let few : (c.list_len-n.result ≤ 65535) × (c.loop-from.k ≤ 254) = let a = c.args in
    let inv = c.loop-from.invariant in
    let known = c.requires.known in
    (omega (arith, inv.count, length-commands a.xs.now a.ys.now a.kinds.now, known.short), going-room inv c.loop-from-test.true known) in
    let room : (256 ≤ length c.loop-from.ends) × (256 ≤ length c.loop-from.lens) = let inv = c.loop-from.invariant in
    (omega (arith, inv.ends_are.same, c.requires.in_bounds.0), omega (arith, inv.lens_are.same, c.requires.in_bounds.1)) in
    omega (arith, few.1, room.1)

pub overflow_add-total : goal.overflow_add-total
overflow_add-total c =
    let few : (c.list_len-n.result ≤ 65535) × (c.loop-from.k ≤ 254) = let a = c.args in
    let inv = c.loop-from.invariant in
    let known = c.requires.known in
    (omega (arith, inv.count, length-commands a.xs.now a.ys.now a.kinds.now, known.short), going-room inv c.loop-from-test.true known) in
    let ends : (
    let a = c.args in
    let r = c.scan_block-s.result in
    (c.loop-from.from ≤ r.end)
    × ((r.end ≤ length a.xs.now) × ((r.end ≤ length a.ys.now) × ((r.end ≤ 65535) × (r.len ≤ 524280))))) = let a = c.args in
    let s = c.scan_block-s.ensures in
    let long = length-commands a.xs.now a.ys.now a.kinds.now in
    let n = c.loop-from.invariant.count in
    (omega (arith, s.end), (omega (arith, s.within, long), (omega (arith, s.within, long), (omega (arith, s.within, n, few.0), omega (arith, scanned-little s, n, few.0))))) in
    omega (arith, going-little c.loop-from.invariant, few.0, ends)

pub end_of-x-requires : goal.end_of-x-requires
end_of-x-requires c =
    let few : (c.list_len-n.result ≤ 65535) × (c.loop-from.k ≤ 254) = let a = c.args in
    let inv = c.loop-from.invariant in
    let known = c.requires.known in
    (omega (arith, inv.count, length-commands a.xs.now a.ys.now a.kinds.now, known.short), going-room inv c.loop-from-test.true known) in
    let ends : (
    let a = c.args in
    let r = c.scan_block-s.result in
    (c.loop-from.from ≤ r.end)
    × ((r.end ≤ length a.xs.now) × ((r.end ≤ length a.ys.now) × ((r.end ≤ 65535) × (r.len ≤ 524280))))) = let a = c.args in
    let s = c.scan_block-s.ensures in
    let long = length-commands a.xs.now a.ys.now a.kinds.now in
    let n = c.loop-from.invariant.count in
    (omega (arith, s.end), (omega (arith, s.within, long), (omega (arith, s.within, long), (omega (arith, s.within, n, few.0), omega (arith, scanned-little s, n, few.0))))) in
    let e = ends in (e.0, e.1.0)

pub end_of-y-requires : goal.end_of-y-requires
end_of-y-requires c =
    let few : (c.list_len-n.result ≤ 65535) × (c.loop-from.k ≤ 254) = let a = c.args in
    let inv = c.loop-from.invariant in
    let known = c.requires.known in
    (omega (arith, inv.count, length-commands a.xs.now a.ys.now a.kinds.now, known.short), going-room inv c.loop-from-test.true known) in
    let ends : (
    let a = c.args in
    let r = c.scan_block-s.result in
    (c.loop-from.from ≤ r.end)
    × ((r.end ≤ length a.xs.now) × ((r.end ≤ length a.ys.now) × ((r.end ≤ 65535) × (r.len ≤ 524280))))) = let a = c.args in
    let s = c.scan_block-s.ensures in
    let long = length-commands a.xs.now a.ys.now a.kinds.now in
    let n = c.loop-from.invariant.count in
    (omega (arith, s.end), (omega (arith, s.within, long), (omega (arith, s.within, long), (omega (arith, s.within, n, few.0), omega (arith, scanned-little s, n, few.0))))) in
    let e = ends in (e.0, e.1.1.0)

pub overflow_add-k : goal.overflow_add-k
overflow_add-k c =
    let few : (c.list_len-n.result ≤ 65535) × (c.loop-from.k ≤ 254) = let a = c.args in
    let inv = c.loop-from.invariant in
    let known = c.requires.known in
    (omega (arith, inv.count, length-commands a.xs.now a.ys.now a.kinds.now, known.short), going-room inv c.loop-from-test.true known) in
    omega (arith, few.1)

pub overflow_add-from : goal.overflow_add-from
overflow_add-from c =
    let few : (c.list_len-n.result ≤ 65535) × (c.loop-from.k ≤ 254) = let a = c.args in
    let inv = c.loop-from.invariant in
    let known = c.requires.known in
    (omega (arith, inv.count, length-commands a.xs.now a.ys.now a.kinds.now, known.short), going-room inv c.loop-from-test.true known) in
    let ends : (
    let a = c.args in
    let r = c.scan_block-s.result in
    (c.loop-from.from ≤ r.end)
    × ((r.end ≤ length a.xs.now) × ((r.end ≤ length a.ys.now) × ((r.end ≤ 65535) × (r.len ≤ 524280))))) = let a = c.args in
    let s = c.scan_block-s.ensures in
    let long = length-commands a.xs.now a.ys.now a.kinds.now in
    let n = c.loop-from.invariant.count in
    (omega (arith, s.end), (omega (arith, s.within, long), (omega (arith, s.within, long), (omega (arith, s.within, n, few.0), omega (arith, scanned-little s, n, few.0))))) in
    omega (arith, ends)

pub loop-from-smaller : goal.loop-from-smaller
loop-from-smaller c =
    let few : (c.list_len-n.result ≤ 65535) × (c.loop-from.k ≤ 254) = let a = c.args in
    let inv = c.loop-from.invariant in
    let known = c.requires.known in
    (omega (arith, inv.count, length-commands a.xs.now a.ys.now a.kinds.now, known.short), going-room inv c.loop-from-test.true known) in
    let ends : (
    let a = c.args in
    let r = c.scan_block-s.result in
    (c.loop-from.from ≤ r.end)
    × ((r.end ≤ length a.xs.now) × ((r.end ≤ length a.ys.now) × ((r.end ≤ 65535) × (r.len ≤ 524280))))) = let a = c.args in
    let s = c.scan_block-s.ensures in
    let long = length-commands a.xs.now a.ys.now a.kinds.now in
    let n = c.loop-from.invariant.count in
    (omega (arith, s.end), (omega (arith, s.within, long), (omega (arith, s.within, long), (omega (arith, s.within, n, few.0), omega (arith, scanned-little s, n, few.0))))) in
    omega (arith, ends, c.loop-from-test.true)

pub loop-from-preserved : goal.loop-from-preserved
loop-from-preserved c =
    let block : (
    let a = c.args in
    Block a.xs.now a.ys.now a.kinds.now c.loop-from.from (to_z w32 c.loop-from.x-bits) (to_z w32 c.loop-from.y-bits)
    c.scan_block-s.result.end (read c.end_of-x.result) (read c.end_of-y.result)) = let a = c.args in
    let inv = c.loop-from.invariant in
    block-found a.xs.now a.ys.now a.kinds.now _ _ _ _ _ _ c.requires.known.placed (omega (arith, inv.count)) inv.across inv.down
    c.scan_block-s.ensures.end c.end_of-x.ensures c.end_of-y.ensures in
    going_on c.loop-from.invariant block (scanned-len c.scan_block-s.ensures)

pub shape_of-ends : goal.shape_of-ends
shape_of-ends c = c.loop-from.invariant.ends_are.same

pub shape_of-lens : goal.shape_of-lens
shape_of-lens c = c.loop-from.invariant.lens_are.same

pub returns : goal.returns
returns c = going_done c.loop-from.invariant c.loop-from-test.false c.requires.known
