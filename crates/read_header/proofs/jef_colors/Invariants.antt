-- Each cell that was passed has its colour. Assumes nothing.
use Rattle.rules.specs.Jef.{jef_stored}
use Rattle.read_header.proofs.Colors.{Filled}
use Rattle.read_header.proofs.jef_colors.Given as goal

abbrev pub invariant-loop-k : goal.invariant-loop-k
invariant-loop-k l = Filled (jef_stored l.file) l.initial.colors l.colors l.n l.k
