-- What is gathered tells the commands before k.
use mathlib.Core.Path.{◌≡◌}
use mathlib.Core.Bool.{true}
use Prim.Native.Nat.{◌+◌, ◌≤◌}
use Rattle.pec.specs.Shorts.{Shorts}
use Rattle.pec.proofs.are_short.Given as goal

abbrev pub invariant-loop-k : goal.invariant-loop-k
invariant-loop-k l = (l.i ≤ l.k) × ((l.k ≤ l.i + 8) × (l.all ≡ true → Shorts l.xs l.ys l.kinds l.i l.k))
