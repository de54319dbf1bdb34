-- `digits_up_to` by the laws of a loop over a text. Assumes nothing.
use Rattle.command_line.proofs.Digits.{answer-none, made-start, made_more, made-wrong, made_all}
use Rattle.command_line.proofs.numbers.digits_up_to.Goals as goal

pub returns-then-text-eq0 : goal.returns-then-text-eq0
returns-then-text-eq0 c = answer-none _ _ c.if-text-eq0.true

pub loop-b-init : goal.loop-b-init
loop-b-init c = made-start _ _ c.if-text-eq0.false

pub returns-in_err-n : goal.returns-in_err-n
returns-in_err-n c =
    rw c.from_residual.ensures (made-wrong _ _ c.loop-b.invariant c.loop-b-test.true c.with_digit.ensures c.in_err-n.was)

pub loop-b-preserved : goal.loop-b-preserved
loop-b-preserved c =
    made_more _ _ c.loop-b.invariant c.loop-b-test.true c.with_digit.ensures c.in_ok-n.was

pub returns : goal.returns
returns c = made_all _ _ c.loop-b.invariant c.loop-b-test.false
