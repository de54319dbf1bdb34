-- What is written is as far as the place; what comes is the places left.
use Prim.Native.Nat.{◌-◌, ◌≤◌}
use Rattle.rules.specs.Lists.{commands}
use Rattle.laws.specs.Buffers.{Writing}
use Rattle.pes_sections.specs.Alike.{points}
use Rattle.pes_sections.specs.States.{placed}
use Rattle.pes_sections.proofs.put_points.Given as goal

abbrev pub invariant-loop-k : goal.invariant-loop-k
invariant-loop-k l =
    (l.k ≤ l.j)
    × (placed l.left l.bottom (commands l.xs l.ys l.kinds)
    × Writing l.initial.out l.at (points l.left l.bottom l.xs l.ys l.i (l.j - l.i)) l.out l.to (points l.left l.bottom l.xs l.ys l.k (l.j - l.k)))
