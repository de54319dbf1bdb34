-- One turn after the other, by `Going`; then the rest.
use Prim.Native.Nat.{◌-◌}
use lib.ListN.{length}
use Rattle.read_records.specs.declared.Row.TheVariants.{Dst}
use Rattle.hoop_records.proofs.Turns.{Rows}
use Rattle.hoop_records.proofs.triples.fits_triples.Given as goal

abbrev pub invariant-loop-w : goal.invariant-loop-w
invariant-loop-w l = Rows Dst l.h l.bytes l.initial.w l.w

abbrev pub decreases-loop-w : goal.decreases-loop-w
decreases-loop-w l = length l.bytes - l.w.at
