-- The run goes to k.
use Prim.Native.Nat.{◌+◌}
use native.Mathlib.Omega.{arith}
use Rattle.laws.specs.Listing.{length-commands}
use Rattle.pec.proofs.Runs.{shorts-none, shorts-join}
use Rattle.pec.proofs.short_till.Goals as goal

pub loop-k-init : goal.loop-k-init
loop-k-init c = (c.list_len-n.ensures, (omega arith, (omega arith, shorts-none _ _ _ _)))

pub overflow_add-k : goal.overflow_add-k
overflow_add-k c = let a = c.args in omega (arith, length-commands a.xs.now a.ys.now a.kinds.now)

pub are_short-requires : goal.are_short-requires
are_short-requires c = record { i_nonzero = (omega arith, omega arith); kinds_value = c.requires.kinds_value }

pub returns-then-not-are_short : goal.returns-then-not-are_short
returns-then-not-are_short c = let inv = c.loop-k.invariant in (inv.1.0, (omega arith, inv.1.1.1))

pub loop-k-smaller : goal.loop-k-smaller
loop-k-smaller c = omega arith

pub loop-k-preserved : goal.loop-k-preserved
loop-k-preserved c = let a = c.args in
    let loop = c.loop-k in
    let more = c.are_short.ensures c.if-not-are_short.false in
    let run = shorts-join a.xs.now a.ys.now a.kinds.now a.i loop.k (loop.k + 8) loop.invariant.1.1.1 more in
    (loop.invariant.0, (omega arith, (omega arith, run)))

pub returns : goal.returns
returns c = let inv = c.loop-k.invariant in (inv.1.0, (omega arith, inv.1.1.1))
