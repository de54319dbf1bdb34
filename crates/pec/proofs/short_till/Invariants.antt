-- The run goes to k.
use mathlib.Core.Path.{◌≡◌}
use Prim.Native.Nat.{◌-◌, ◌≤◌}
use lib.ListN.{length}
use Rattle.rules.specs.Lists.{commands}
use Rattle.pec.specs.Shorts.{Shorts}
use Rattle.pec.proofs.short_till.Given as goal

abbrev pub invariant-loop-k : goal.invariant-loop-k
invariant-loop-k l =
    (l.n ≡ length (commands l.xs l.ys l.kinds)) × ((l.i ≤ l.k) × ((l.k ≤ l.n) × Shorts l.xs l.ys l.kinds l.i l.k))

abbrev pub decreases-loop-k : goal.decreases-loop-k
decreases-loop-k l = l.n - l.k
