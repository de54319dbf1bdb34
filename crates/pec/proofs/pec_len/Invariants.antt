-- What is counted and what the commands left take come to the whole.
use mathlib.Core.Path.{◌≡◌}
use Prim.Native.Nat.{◌+◌, ◌*◌, ◌≤◌}
use lib.IntN.{pos}
use lib.ListN.{length}
use Rattle.rules.specs.Lists.{commands}
use Rattle.rules.specs.Pec.{pec_start, pec_stitches}
use Rattle.pec.proofs.Turns.{Walk, bytes_from}
use Rattle.pec.proofs.Turns.{turns}
use Rattle.pec.proofs.pec_len.Given as goal

abbrev pub invariant-loop-i : goal.invariant-loop-i
invariant-loop-i l =
    Walk l.xs l.ys l.kinds l.n l.i l.s l.last
    × ((l.total ≤ 6 * l.i) × (l.total + length (bytes_from l.xs l.ys l.kinds l.i l.s l.last) ≡ length (pec_stitches pec_start (pos 0) (pos 0) (commands l.xs l.ys l.kinds))))

abbrev pub decreases-loop-i : goal.decreases-loop-i
decreases-loop-i l = turns l.n l.i l.wait
