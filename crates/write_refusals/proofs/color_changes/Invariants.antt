-- The count for the whole list is what was found and the count for the commands that are left.
use mathlib.Core.Path.{◌≡◌}
use Prim.Native.Nat.{◌+◌, ◌≤◌}
use lib.ListN.{drop}
use Rattle.rules.specs.Vocabulary.{count}
use Rattle.rules.specs.Lists.{commands}
use Rattle.rules.specs.Refusals.{changes}
use Rattle.write_refusals.proofs.Walk.{Held}
use Rattle.write_refusals.proofs.color_changes.Given as goal

abbrev pub invariant-loop-i : goal.invariant-loop-i
invariant-loop-i l =
    Held l.xs l.ys l.kinds l.n
    × ((count changes (commands l.xs l.ys l.kinds) ≤ 65535)
    × (count changes (commands l.xs l.ys l.kinds) ≡ l.found + count changes (drop l.i (commands l.xs l.ys l.kinds))))
