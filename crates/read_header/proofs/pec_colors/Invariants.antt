-- Each cell that was passed has its colour. Assumes nothing.
use Rattle.rules.specs.Pec.{pec_stored}
use Rattle.read_header.proofs.Colors.{Filled}
use Rattle.read_header.proofs.pec_colors.Given as goal

abbrev pub invariant-loop-k : goal.invariant-loop-k
invariant-loop-k l = Filled (pec_stored l.start l.file) l.initial.colors l.colors l.n l.k
