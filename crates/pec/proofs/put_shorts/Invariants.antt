-- What is written is as far as k, and what comes is from there to j.
use Prim.Native.Nat.{◌-◌, ◌≤◌}
use Rattle.laws.specs.Buffers.{Writing}
use Rattle.pec.specs.Shorts.{pairs}
use Rattle.pec.proofs.put_shorts.Given as goal

abbrev pub invariant-loop-k : goal.invariant-loop-k
invariant-loop-k l =
    (l.i ≤ l.k) × Writing l.initial.out l.at (pairs l.xs l.ys l.i (l.j - l.i)) l.out l.to (pairs l.xs l.ys l.k (l.j - l.k))
