-- What is counted and what is still to be counted come to the whole.
use mathlib.Core.Path.{ap}
use Prim.Native.Nat.{◌≤◌, ◌<◌}
use native.Mathlib.Omega.{arith}
use lib.ListN.{length, take, get_or}
use lib.Seq.{get_or-take, length-take-le}
use Rattle.laws.specs.Tests.{pick-both}
use Rattle.laws.specs.Listing.{count-more, count-end}
use Rattle.stream_cmd.specs.Cmds.{kind_in}
use Rattle.stream.proofs.kinds_in.Goals as goal

pub loop-i-init : goal.loop-i-init
loop-i-init c = (omega arith, (omega arith, omega arith))

pub bounds-kinds-i : goal.bounds-kinds-i
bounds-kinds-i c = omega arith

pub overflow_add-found : goal.overflow_add-found
overflow_add-found c =
    let once : c.is_in-found.result ≤ 1 = let a = c.args in
    let k = kind_in a.lo a.hi (get_or a.kinds.now c.loop-i.i 0) in
    rw c.is_in-found.ensures (pick-both (λ n. n ≤ 1) k (omega arith) (omega arith)) in
    omega (arith, once, c.requires)

pub loop-i-preserved : goal.loop-i-preserved
loop-i-preserved c =
    let once : c.is_in-found.result ≤ 1 = let a = c.args in
    let k = kind_in a.lo a.hi (get_or a.kinds.now c.loop-i.i 0) in
    rw c.is_in-found.ensures (pick-both (λ n. n ≤ 1) k (omega arith) (omega arith)) in
    let a = c.args in
    let loop = c.loop-i in
    let ks = a.kinds.now in
    let s = take a.n ks in
    let l : loop.i < length s = rw (length-take-le a.n ks c.requires.0) (omega arith) in
    let e = ap (kind_in a.lo a.hi) (get_or-take a.n ks loop.i 0 (omega arith)) in
    let more = count-more (kind_in a.lo a.hi) s 0 loop.i loop.found loop.invariant.1.1 _ l e in
    (omega arith, (omega (arith, once), rw c.is_in-found.ensures more))

pub overflow_cast-result : goal.overflow_cast-result
overflow_cast-result c = omega (arith, c.requires)

pub returns : goal.returns
returns c = let a = c.args in
    let s = take a.n a.kinds.now in
    let l : length s ≤ c.loop-i.i = rw (length-take-le a.n a.kinds.now c.requires.0) (omega arith) in
    (count-end (kind_in a.lo a.hi) s 0 c.loop-i.i c.loop-i.found c.loop-i.invariant.1.1 l, omega arith)
