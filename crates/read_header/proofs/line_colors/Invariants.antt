-- The colours of the whole text are those in the cells and those of the lines that are left. Assumes nothing.
use Prim.Native.Nat.{◌+◌, ◌-◌, ◌≤◌}
use mathlib.Core.Path.{◌≡◌}
use lib.ListN.{length}
use Rattle.rules.specs.Text.{lines_of}
use Rattle.rules.specs.Dst.{line_colors}
use Rattle.read_header.specs.Lines.{lines_from}
use Rattle.read_header.proofs.Colors.{Listed}
use Rattle.read_header.proofs.line_colors.Given as goal

abbrev pub invariant-loop-at : goal.invariant-loop-at
invariant-loop-at l = (l.at ≤ length l.s + 1) × ((length l.colors ≡ length l.initial.colors) × Listed (line_colors (lines_of l.s)) (line_colors (lines_from l.at l.s)) l.colors l.n l.at)

abbrev pub decreases-loop-at : goal.decreases-loop-at
decreases-loop-at l = length l.s + 1 - l.at
