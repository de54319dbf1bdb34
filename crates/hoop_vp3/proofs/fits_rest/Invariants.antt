-- One step after the other, by `Going`.
use Prim.Native.Nat.{◌-◌}
use lib.ListN.{length}
use Rattle.hoop_vp3.proofs.Steps.{Stitches}
use Rattle.hoop_vp3.proofs.fits_rest.Given as goal

abbrev pub invariant-loop-w : goal.invariant-loop-w
invariant-loop-w l = Stitches l.h l.bytes l.initial.w l.w

abbrev pub decreases-loop-w : goal.decreases-loop-w
decreases-loop-w l = length l.bytes - l.w.at
