-- One record after the other, by `Going`.
use Prim.Native.Nat.{◌-◌}
use lib.ListN.{length}
use Rattle.hoop_records.proofs.Turns.{Rows}
use Rattle.hoop_records.proofs.rest.fits_rest.Given as goal

abbrev pub invariant-loop-w : goal.invariant-loop-w
invariant-loop-w l = Rows l.f l.h l.bytes l.initial.w l.w

abbrev pub decreases-loop-w : goal.decreases-loop-w
decreases-loop-w l = length l.bytes - l.w.at
