-- `pec_palette` meets its contract. The invariant: the entries before i stand, the others are still to come. Assumes nothing.
use Prim.Native.Nat.{◌≤◌}
use lib.ListN.{drop}
use Rattle.rules.specs.Choices.{pec_palette}
use Rattle.laws.specs.Buffers.{Writing}
use Rattle.formats.proofs.pec_palette.Given as goal

abbrev pub invariant-loop-i : goal.invariant-loop-i
invariant-loop-i l = (1 ≤ l.i) × ((l.i ≤ 65) × Writing l.initial.out 1 (drop 1 pec_palette) l.out l.i (drop l.i pec_palette))
