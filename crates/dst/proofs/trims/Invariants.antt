-- What was found and what the commands left have are all.
use Prim.Native.Nat.{◌+◌, ◌≤◌}
use mathlib.Core.Path.{◌≡◌}
use lib.ListN.{drop}
use Rattle.rules.specs.Vocabulary.{count}
use Rattle.rules.specs.Lists.{commands}
use Rattle.dst.specs.Lines.{trimming}
use Rattle.dst.proofs.trims.Given as goal

abbrev pub invariant-loop-i : goal.invariant-loop-i
invariant-loop-i l =
    (l.found ≤ l.i) × ((l.i ≤ l.n) × (count trimming (commands l.xs l.ys l.kinds) ≡ l.found + count trimming (drop l.i (commands l.xs l.ys l.kinds))))
