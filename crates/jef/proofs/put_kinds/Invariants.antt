-- One number less is left.
use Prim.Native.Nat.{◌-◌}
use lib.ListN.{replicate}
use Rattle.rules.specs.Jef.{words}
use Rattle.laws.specs.Buffers.{Writing}
use Rattle.jef.proofs.put_kinds.Given as goal

abbrev pub invariant-loop-i : goal.invariant-loop-i
invariant-loop-i l = Writing l.initial.out l.at (words (replicate l.n 0x0D)) l.out l.to (words (replicate (l.n - l.i) 0x0D))
