-- The kinds before k are alike.
use Prim.Native.Nat.{◌-◌, ◌≤◌}
use Rattle.pes_sections.specs.Alike.{Alike}
use Rattle.pes_sections.proofs.alike_till.Given as goal

abbrev pub invariant-loop-k : goal.invariant-loop-k
invariant-loop-k l = (l.i ≤ l.k) × ((l.k ≤ l.n) × Alike l.kinds l.kind l.i l.k)

abbrev pub decreases-loop-k : goal.decreases-loop-k
decreases-loop-k l = l.n - l.k
