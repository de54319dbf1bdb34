-- One jump after the other, by `Jumps`.
use mathlib.Core.Path.{◌≡◌, sym}
use Prim.Native.Nat.{◌+◌, ◌/◌, ◌%◌, ◌≤◌}
use native.Mathlib.Omega.{arith}
use lib.ListN.{length}
use Rattle.read_passes.proofs.Found.{Word, hops-low}
use Rattle.read_count.specs.Tallies.{none, more}
use Rattle.read_count.proofs.steps.pass_jumps.Goals as goal

pub loop-at-init : goal.loop-at-init
loop-at-init c = (none, omega arith)

pub four-w-requires : goal.four-w-requires
four-w-requires c =
    let room : c.loop-at.at + 8 ≤ length c.args.bytes.now = c.requires.by_index c.loop-at.at c.loop-at-test.true in
    omega arith

pub overflow_add-at : goal.overflow_add-at
overflow_add-at c =
    let room : c.loop-at.at + 8 ≤ length c.args.bytes.now = c.requires.by_index c.loop-at.at c.loop-at-test.true in
    omega arith

pub overflow_add-at-in-loop-at : goal.overflow_add-at-in-loop-at
overflow_add-at-in-loop-at c =
    let room : c.loop-at.at + 8 ≤ length c.args.bytes.now = c.requires.by_index c.loop-at.at c.loop-at-test.true in
    omega (arith, c.top.ensures)

pub overflow_add-at-in-loop-at-2 : goal.overflow_add-at-in-loop-at-2
overflow_add-at-in-loop-at-2 c =
    let room : c.loop-at.at + 8 ≤ length c.args.bytes.now = c.requires.by_index c.loop-at.at c.loop-at-test.true in
    omega (arith, c.top.ensures, c.top-in-loop-at.ensures)

pub loop-at-smaller : goal.loop-at-smaller
loop-at-smaller c = omega (arith, c.loop-at-test.true)

pub loop-at-preserved : goal.loop-at-preserved
loop-at-preserved c =
    let room : c.loop-at.at + 8 ≤ length c.args.bytes.now = c.requires.by_index c.loop-at.at c.loop-at-test.true in
    let i = c.loop-at in
    let f = c.four-w in
    let y = c.past-y in
    let w : Word c.args.bytes.now i.at f.result =
    record { low = c.shared_slice_known-1.given; room = room; four = f.ensures } in
    let n : i.at + 2 + c.top.result + c.top-in-loop-at.result ≡ i.at + (2 + f.result / 128 % 2 + y.result / 128 % 2) =
    omega (arith, c.top.ensures, c.top-in-loop-at.ensures) in
    let r = hops-low w y.ensures c.sews.ensures (omega arith) c.if-sews.false in
    (rw n (more i.invariant.0 (sym r)), omega (arith, i.invariant.1))
