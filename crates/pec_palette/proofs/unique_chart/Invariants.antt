-- What is given so far, and what is left to give.
use Rattle.rules.specs.Lists.{threads_of}
use Rattle.pec_palette.proofs.Giving.{Giving}
use Rattle.pec_palette.proofs.unique_chart.Given as goal

abbrev pub invariant-loop-i : goal.invariant-loop-i
invariant-loop-i l = Giving (threads_of l.threads) l.i (record { free = l.free; chart = l.chart })
