-- The place reached and what is left of the run from there come to where the run ends.
use mathlib.Core.Path.{◌≡◌}
use Prim.Native.Nat.{◌+◌}
use lib.ListN.{length, drop}
use Rattle.rules.specs.Lists.{commands}
use Rattle.rules.specs.Pes.{run_length}
use Rattle.pes_sections.proofs.run_end.Given as goal

abbrev pub invariant-loop-i : goal.invariant-loop-i
invariant-loop-i l =
    let cs = commands l.xs l.ys l.kinds in
    (l.n ≡ length cs) × (l.i + run_length l.kind (drop l.i cs) ≡ l.from + run_length l.kind (drop l.from cs))
