-- The kinds before k are alike.
use Prim.Native.Nat.{◌+◌}
use native.Mathlib.Omega.{arith}
use Rattle.pes_sections.proofs.Alike.{alike-join}
use Rattle.pes_sections.proofs.alike_till.Goals as goal

pub overflow_add-k : goal.overflow_add-k
overflow_add-k c = omega arith

pub are_alike-requires : goal.are_alike-requires
are_alike-requires c = omega arith

pub returns-then-not-are_alike : goal.returns-then-not-are_alike
returns-then-not-are_alike c = c.loop-k.invariant

pub overflow_add-k-in-loop-k : goal.overflow_add-k-in-loop-k
overflow_add-k-in-loop-k c = omega arith

pub loop-k-smaller : goal.loop-k-smaller
loop-k-smaller c = omega arith

pub loop-k-preserved : goal.loop-k-preserved
loop-k-preserved c = let a = c.args in
    let loop = c.loop-k in
    let eight = c.are_alike.ensures c.if-not-are_alike.false in
    (omega arith, (omega arith, alike-join a.kinds.now a.kind a.i loop.k (loop.k + 8) loop.invariant.1.1 eight))

pub returns : goal.returns
returns c = c.loop-k.invariant
