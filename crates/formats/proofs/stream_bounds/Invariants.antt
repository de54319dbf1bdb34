-- `stream_bounds` meets its contract. The invariant: the bounds hold the places before i. Assumes nothing.
use Rattle.formats.proofs.Framing.{Framed, Read}
use Rattle.formats.proofs.stream_bounds.Given as goal

abbrev pub invariant-loop-i : goal.invariant-loop-i
invariant-loop-i l = Framed 2147483647 l.xs l.ys l.kinds l.n l.i l.b × (Read l.xs l.i × Read l.ys l.i)
