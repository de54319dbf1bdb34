-- From each place passed the next colour change is the same.
use Prim.Native.Nat.{◌+◌, ◌≤◌}
use mathlib.Core.Path.{◌≡◌}
use lib.ListN.{length, drop}
use Rattle.rules.specs.Lists.{commands}
use Rattle.thumbnails.specs.Blocks.{change_from}
use Rattle.thumbnails.proofs.block_end.Given as goal

abbrev pub invariant-loop-i : goal.invariant-loop-i
invariant-loop-i l =
    let cs = commands l.xs l.ys l.kinds in
    (l.n ≡ length cs) × ((l.i ≤ l.n) × (l.i + change_from (drop l.i cs) ≡ l.from + change_from (drop l.from cs)))
