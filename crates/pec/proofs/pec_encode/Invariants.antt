-- What is written is as far as the place; what comes is what the commands left take, from the place of the last.
use Prim.Native.Nat.{◌≤◌}
use lib.IntN.{pos}
use Rattle.rules.specs.Lists.{commands}
use Rattle.rules.specs.Pec.{pec_start, pec_stitches}
use Rattle.laws.specs.Buffers.{Writing}
use Rattle.pec.proofs.Turns.{Walk, bytes_from}
use Rattle.pec.proofs.Turns.{turns}
use Rattle.pec.proofs.pec_encode.Given as goal

abbrev pub invariant-loop-i : goal.invariant-loop-i
invariant-loop-i l =
    Walk l.xs l.ys l.kinds l.n l.i l.s l.last
    × (Writing l.initial.out l.at (pec_stitches pec_start (pos 0) (pos 0) (commands l.xs l.ys l.kinds)) l.out l.to (bytes_from l.xs l.ys l.kinds l.i l.s l.last) × (l.at ≤ l.to))

abbrev pub decreases-loop-i : goal.decreases-loop-i
decreases-loop-i l = turns l.n l.i l.wait
