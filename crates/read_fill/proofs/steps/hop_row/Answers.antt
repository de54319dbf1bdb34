-- Jump by jump, by `HopRow`.
use Prim.Native.Nat.{◌+◌, ◌≤◌}
use native.Mathlib.Omega.{arith}
use lib.ListN.{length}
use Rattle.read_passes.proofs.Found.{Word, hops-low}
use Rattle.read_passes.proofs.Turns.{reads}
use Rattle.read_fill.proofs.Hops.{Leap, leap, row-start, row_small, row_on}
use Rattle.read_fill.proofs.steps.hop_row.Goals as goal

pub loop-at-init : goal.loop-at-init
loop-at-init c = row-start c.requires.bounded c.requires.from_in_bounds

pub four-w-requires : goal.four-w-requires
four-w-requires c =
    let room : c.loop-at.at + 8 ≤ length c.args.bytes.now = c.requires.by_index c.loop-at.at c.loop-at-test.true in
    omega arith

pub sum-requires : goal.sum-requires
sum-requires c =
    let room : c.loop-at.at + 8 ≤ length c.args.bytes.now = c.requires.by_index c.loop-at.at c.loop-at-test.true in
    let jumps : let l = c.loop-at in
    Leap c.args.bytes.now l.b l.at c.four-w.result c.past-y.result = let w : Word c.args.bytes.now c.loop-at.at c.four-w.result =
    record { low = c.shared_slice_known-1.given; room = room; four = c.four-w.ensures } in
    let e = hops-low w c.past-y.ensures c.sews_by.ensures (omega arith) c.if-sews_by.false in
    leap c.loop-at.invariant e c.requires.bytes_len_bound in
    let r = jumps in
    let u = c.step_of in
    rw (r.at_x, reads u.type_inv u.ensures) r.reach.x

pub sum-requires-in-loop-at : goal.sum-requires-in-loop-at
sum-requires-in-loop-at c =
    let room : c.loop-at.at + 8 ≤ length c.args.bytes.now = c.requires.by_index c.loop-at.at c.loop-at-test.true in
    let jumps : let l = c.loop-at in
    Leap c.args.bytes.now l.b l.at c.four-w.result c.past-y.result = let w : Word c.args.bytes.now c.loop-at.at c.four-w.result =
    record { low = c.shared_slice_known-1.given; room = room; four = c.four-w.ensures } in
    let e = hops-low w c.past-y.ensures c.sews_by.ensures (omega arith) c.if-sews_by.false in
    leap c.loop-at.invariant e c.requires.bytes_len_bound in
    let r = jumps in
    let u = c.step_of-in-loop-at in
    rw (r.at_y, reads u.type_inv u.ensures) r.reach.y

pub jump-b-requires : goal.jump-b-requires
jump-b-requires c =
    row_small c.loop-at.invariant
    c.requires.bytes_len_bound

pub overflow_add-at : goal.overflow_add-at
overflow_add-at c =
    let room : c.loop-at.at + 8 ≤ length c.args.bytes.now = c.requires.by_index c.loop-at.at c.loop-at-test.true in
    let ahead : c.loop-at.at + 8 ≤ 2097152 = let h = room in omega (arith, c.requires.bytes_len_bound) in
    omega arith

pub overflow_add-at-in-loop-at : goal.overflow_add-at-in-loop-at
overflow_add-at-in-loop-at c =
    let room : c.loop-at.at + 8 ≤ length c.args.bytes.now = c.requires.by_index c.loop-at.at c.loop-at-test.true in
    let ahead : c.loop-at.at + 8 ≤ 2097152 = let h = room in omega (arith, c.requires.bytes_len_bound) in
    omega (arith, c.top.ensures)

pub overflow_add-at-in-loop-at-2 : goal.overflow_add-at-in-loop-at-2
overflow_add-at-in-loop-at-2 c =
    let room : c.loop-at.at + 8 ≤ length c.args.bytes.now = c.requires.by_index c.loop-at.at c.loop-at-test.true in
    let ahead : c.loop-at.at + 8 ≤ 2097152 = let h = room in omega (arith, c.requires.bytes_len_bound) in
    omega (arith, c.top.ensures, c.top-in-loop-at.ensures)

pub loop-at-smaller : goal.loop-at-smaller
loop-at-smaller c =
    omega (arith, c.loop-at-test.true)

pub loop-at-preserved : goal.loop-at-preserved
loop-at-preserved c =
    let room : c.loop-at.at + 8 ≤ length c.args.bytes.now = c.requires.by_index c.loop-at.at c.loop-at-test.true in
    let jumps : let l = c.loop-at in
    Leap c.args.bytes.now l.b l.at c.four-w.result c.past-y.result = let w : Word c.args.bytes.now c.loop-at.at c.four-w.result =
    record { low = c.shared_slice_known-1.given; room = room; four = c.four-w.ensures } in
    let e = hops-low w c.past-y.ensures c.sews_by.ensures (omega arith) c.if-sews_by.false in
    leap c.loop-at.invariant e c.requires.bytes_len_bound in
    let r = jumps in
    let u = c.step_of in
    let v = c.step_of-in-loop-at in
    let m = c.sum in
    let n = c.sum-in-loop-at in
    let j = rw (reads m.type_inv m.ensures, reads n.type_inv n.ensures) at c.jump-b.ensures in
    let q = rw (r.at_x, r.at_y, reads u.type_inv u.ensures, reads v.type_inv v.ensures) at j in
    row_on c.loop-at.invariant r.here q
    (omega (arith, c.top.ensures, c.top-in-loop-at.ensures))
