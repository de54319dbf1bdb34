-- The last label of the whole text is told from the one found so far and the lines that are left. Assumes nothing.
use Prim.Native.Nat.{◌+◌, ◌-◌, ◌≤◌}
use mathlib.Core.Path.{◌≡◌}
use mathlib.Core.List.{[]}
use lib.ListN.{length, take, drop}
use Rattle.rules.specs.Text.{lines_of}
use Rattle.rules.specs.Dst.{last_label}
use Rattle.read_header.specs.Lines.{lines_from}
use Rattle.read_header.proofs.last_label_at.Given as goal

abbrev pub invariant-loop-at : goal.invariant-loop-at
invariant-loop-at l =
    (l.from ≤ l.to)
    × ((l.to ≤ length l.s)
    × ((l.at ≤ length l.s + 1) × (last_label [] (lines_of l.s) ≡ last_label (take (l.to - l.from) (drop l.from l.s)) (lines_from l.at l.s))))

abbrev pub decreases-loop-at : goal.decreases-loop-at
decreases-loop-at l = length l.s + 1 - l.at
