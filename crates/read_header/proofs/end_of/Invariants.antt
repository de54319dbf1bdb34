-- The text without its last blanks is that of the bytes before i. Assumes nothing.
use mathlib.Core.Path.{◌≡◌}
use lib.ListN.{take}
use Rattle.rules.specs.Text.{trim_end}
use Rattle.read_header.proofs.end_of.Given as goal

abbrev pub invariant-loop-i : goal.invariant-loop-i
invariant-loop-i l = trim_end l.s ≡ trim_end (take l.i l.s)
