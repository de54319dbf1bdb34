-- Jump by jump, by `HopRow`.
use Prim.Native.Nat.{◌-◌}
use Rattle.read_fill.proofs.Hops.{HopRow}
use Rattle.read_fill.proofs.steps.hop_row.Given as goal

abbrev pub invariant-loop-at : goal.invariant-loop-at
invariant-loop-at l = HopRow l.bytes l.initial.b l.from l.b l.at

abbrev pub decreases-loop-at : goal.decreases-loop-at
decreases-loop-at l = l.end - l.at
