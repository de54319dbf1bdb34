-- `last` finds the last byte of a kind. The invariant: there is none from i on. Assumes nothing.
use Rattle.command_line.proofs.Lasts.{NoneFrom}
use Rattle.command_line.proofs.names.last.Given as goal

abbrev pub invariant-loop-i : goal.invariant-loop-i
invariant-loop-i l = NoneFrom l.b l.s l.i
