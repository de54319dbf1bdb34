-- What is gathered tells the kinds before k.
use mathlib.Core.Path.{◌≡◌}
use mathlib.Core.Bool.{true}
use Prim.Native.Nat.{◌+◌, ◌≤◌}
use Rattle.pes_sections.specs.Alike.{Alike}
use Rattle.pes_sections.proofs.are_alike.Given as goal

abbrev pub invariant-loop-k : goal.invariant-loop-k
invariant-loop-k l = (l.i ≤ l.k) × ((l.k ≤ l.i + 8) × (l.all ≡ true → Alike l.kinds l.kind l.i l.k))
