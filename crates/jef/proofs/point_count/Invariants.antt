-- The count for the list, and one, is what was counted and the count for the commands that are left.
use Prim.Native.Nat.{◌+◌, ◌*◌, ◌≤◌}
use mathlib.Core.Path.{◌≡◌}
use lib.ListN.{length, drop}
use Rattle.rules.specs.Jef.{point_count_of}
use Rattle.rules.specs.Lists.{commands}
use Rattle.jef.proofs.point_count.Given as goal

abbrev pub invariant-loop-i : goal.invariant-loop-i
invariant-loop-i l =
    (l.n ≡ length (commands l.xs l.ys l.kinds))
    × ((l.n ≤ length l.kinds)
    × ((l.total ≤ 1 + 2 * l.i)
    × (point_count_of (commands l.xs l.ys l.kinds) + 1 ≡ l.total + point_count_of (drop l.i (commands l.xs l.ys l.kinds)))))
