-- The place reached and what is left of the run from there come to where the run ends.
use Prim.Native.Nat.{◌-◌}
use native.Mathlib.Omega.{arith}
use lib.ListN.{get_or}
use Rattle.laws.specs.Listing.{length-commands}
use Rattle.pes_sections.proofs.Alike.{alike-run}
use Rattle.pes_sections.proofs.Runs.{run_more, run-stops, run_none}
use Rattle.pes_sections.proofs.run_end.Goals as goal

pub bounds-kinds-from : goal.bounds-kinds-from
bounds-kinds-from c = let a = c.args in omega (arith, length-commands a.xs.now a.ys.now a.kinds.now)

pub alike_till-rest-requires : goal.alike_till-rest-requires
alike_till-rest-requires c = let a = c.args in
    let long = length-commands a.xs.now a.ys.now a.kinds.now in
    (omega (arith, c.list_len-n.ensures), omega (arith, long, c.list_len-n.ensures))

pub loop-i-init : goal.loop-i-init
loop-i-init c = let a = c.args in
    let n = c.list_len-n.ensures in
    let end = c.alike_till-rest.result in
    let w = c.alike_till-rest.ensures in
    let kind = get_or a.kinds.now a.from 0 in
    (n, alike-run a.xs.now a.ys.now a.kinds.now kind (end - a.from) a.from end (omega (arith, w.0)) (omega (arith, w.1.0, n)) w.1.1)

pub bounds-kinds-i : goal.bounds-kinds-i
bounds-kinds-i c = let a = c.args in
    omega (arith, length-commands a.xs.now a.ys.now a.kinds.now)

pub returns-then-kinds-i : goal.returns-then-kinds-i
returns-then-kinds-i c = let a = c.args in
    let loop = c.loop-i in
    let stop = run-stops a.xs.now a.ys.now a.kinds.now loop.i (get_or a.kinds.now a.from 0) (omega arith) c.if-kinds-i.true in
    omega (arith, stop, loop.invariant.1)

pub loop-i-preserved : goal.loop-i-preserved
loop-i-preserved c = let a = c.args in
    let loop = c.loop-i in
    let more = run_more a.xs.now a.ys.now a.kinds.now loop.i (get_or a.kinds.now a.from 0) (omega arith) c.if-kinds-i.false in
    (loop.invariant.0, omega (arith, more, loop.invariant.1))

pub returns : goal.returns
returns c = let a = c.args in
    let loop = c.loop-i in
    let none = run_none a.xs.now a.ys.now a.kinds.now loop.i (get_or a.kinds.now a.from 0) (omega arith) in
    omega (arith, none, loop.invariant.1)
