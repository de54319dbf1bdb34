-- What is gathered tells the kinds before k.
use native.Mathlib.Omega.{arith}
use borrow.Author.Tests.{eqb-true}
use lib.ListN.{get_or}
use Rattle.laws.specs.Tests.{and_left, and_right}
use Rattle.pes_sections.proofs.Alike.{alike-none, alike-more}
use Rattle.pes_sections.proofs.are_alike.Goals as goal

pub loop-k-init : goal.loop-k-init
loop-k-init c = (omega arith, (omega arith, λ e. alike-none c.args.kinds.now c.args.kind c.args.i))

pub overflow_add-k-end : goal.overflow_add-k-end
overflow_add-k-end c = omega arith

pub bounds-kinds-k : goal.bounds-kinds-k
bounds-kinds-k c = omega arith

pub loop-k-preserved : goal.loop-k-preserved
loop-k-preserved c =
    let a = c.args in
    let loop = c.loop-k in
    let more = alike-more a.kinds.now a.kind a.i loop.k in
    (omega arith, (omega arith, λ e. more (loop.invariant.1.1 (and_left loop.all _ e)) (eqb-true (get_or a.kinds.now loop.k 0) a.kind (and_right loop.all _ e))))

pub returns : goal.returns
returns c =
    let loop = c.loop-k in
    λ e. λ k h l. loop.invariant.1.1 e k h (omega arith)
