-- One turn after the other, by `Going`; then the rest.
use Prim.Native.Nat.{◌-◌}
use lib.ListN.{length}
use Rattle.read_records.specs.Firsts.{pair_row}
use Rattle.hoop_records.proofs.Turns.{Rows}
use Rattle.hoop_records.proofs.pairs.fits_pairs.Given as goal

abbrev pub invariant-loop-w : goal.invariant-loop-w
invariant-loop-w l = Rows (pair_row l.jef) l.h l.bytes l.initial.w l.w

abbrev pub decreases-loop-w : goal.decreases-loop-w
decreases-loop-w l = length l.bytes - l.w.at
