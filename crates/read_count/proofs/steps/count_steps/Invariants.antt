-- One turn after the other, by `Tallying`; then the rest.
use Prim.Native.Nat.{◌-◌}
use lib.ListN.{length}
use Rattle.read_count.specs.Tallies.{Tallying}
use Rattle.read_records.specs.declared.Row.TheVariants.{Pec}
use Rattle.read_count.proofs.steps.count_steps.Given as goal

abbrev pub invariant-loop-at : goal.invariant-loop-at
invariant-loop-at l = Tallying Pec l.bytes l.t l.at

abbrev pub decreases-loop-at : goal.decreases-loop-at
decreases-loop-at l = length l.bytes - l.at
