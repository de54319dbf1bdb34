-- One record after the other, by `Tallying`.
use Prim.Native.Nat.{◌-◌}
use lib.ListN.{length}
use Rattle.read_count.specs.Tallies.{Tallying}
use Rattle.read_count.proofs.tally.count_rest.Given as goal

abbrev pub invariant-loop-at : goal.invariant-loop-at
invariant-loop-at l = Tallying l.f l.bytes l.t l.at

abbrev pub decreases-loop-at : goal.decreases-loop-at
decreases-loop-at l = length l.bytes - l.at
