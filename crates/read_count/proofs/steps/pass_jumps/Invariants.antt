-- One jump after the other, by `Jumps`.
use Prim.Native.Nat.{◌-◌, ◌≤◌}
use Rattle.read_records.specs.declared.Row.TheVariants.{Pec}
use Rattle.read_count.specs.Tallies.{Jumps}
use Rattle.read_count.proofs.steps.pass_jumps.Given as goal

abbrev pub invariant-loop-at : goal.invariant-loop-at
invariant-loop-at l = Jumps Pec l.bytes l.from l.at × (l.from ≤ l.at)

abbrev pub decreases-loop-at : goal.decreases-loop-at
decreases-loop-at l = l.end - l.at
