-- `near_bounds` meets its contract. The invariant: the four numbers hold the places before i. Assumes nothing.
use Rattle.formats.proofs.Framing.{Near}
use Rattle.formats.proofs.near_bounds.Given as goal

abbrev pub invariant-loop-i : goal.invariant-loop-i
invariant-loop-i l = Near l.xs l.ys l.kinds l.n l.i l.x0 l.y0 l.x1 l.y1
