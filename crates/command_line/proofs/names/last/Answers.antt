-- `last` finds the last byte of a kind. The invariant: there is none from i on. Assumes nothing.
use native.Mathlib.Omega.{arith}
use Rattle.command_line.proofs.Lasts.{none-start, none_more, last-here, last-nowhere}
use Rattle.command_line.proofs.names.last.Goals as goal

pub loop-i-init : goal.loop-i-init
loop-i-init c = none-start c.args.b c.args.s.now

pub returns-then-s-i-clause-is : goal.returns-then-s-i-clause-is
returns-then-s-i-clause-is c = let a = c.args in
    let l = c.loop-i in
    last-here a.b a.s.now l.i (omega arith) l.auto.i c.if-s-i.true l.invariant

pub loop-i-preserved : goal.loop-i-preserved
loop-i-preserved c = let a = c.args in none_more a.b a.s.now c.loop-i.i c.if-s-i.false c.loop-i.invariant

pub returns-clause-is : goal.returns-clause-is
returns-clause-is c = let a = c.args in last-nowhere a.b a.s.now c.loop-i.i (omega arith) c.loop-i.invariant
