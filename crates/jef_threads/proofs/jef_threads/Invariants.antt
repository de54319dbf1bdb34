-- `jef_threads` meets its contract, as `pec_palette` does. Assumes nothing.
use Prim.Native.Nat.{◌≤◌}
use lib.ListN.{drop}
use Rattle.rules.specs.Choices.{jef_palette}
use Rattle.laws.specs.Buffers.{Writing}
use Rattle.jef_threads.proofs.jef_threads.Given as goal

abbrev pub invariant-loop-i : goal.invariant-loop-i
invariant-loop-i l = (1 ≤ l.i) × ((l.i ≤ 79) × Writing l.initial.out 1 (drop 1 jef_palette) l.out l.i (drop l.i jef_palette))
