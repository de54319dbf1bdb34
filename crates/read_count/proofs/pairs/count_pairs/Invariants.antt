-- One turn after the other, by `Tallying`; then the rest.
use Prim.Native.Nat.{◌-◌}
use lib.ListN.{length}
use Rattle.read_records.specs.Firsts.{pair_row}
use Rattle.read_count.specs.Tallies.{Tallying}
use Rattle.read_count.proofs.pairs.count_pairs.Given as goal

abbrev pub invariant-loop-at : goal.invariant-loop-at
invariant-loop-at l = Tallying (pair_row l.jef) l.bytes l.t l.at

abbrev pub decreases-loop-at : goal.decreases-loop-at
decreases-loop-at l = length l.bytes - l.at
