-- `digits_up_to` by the laws of a loop over a text. Assumes nothing.
use Rattle.command_line.proofs.Digits.{Made}
use Rattle.command_line.proofs.numbers.digits_up_to.Given as goal

abbrev pub invariant-loop-b : goal.invariant-loop-b
invariant-loop-b l = Made l.most l.text l.b-index l.n
