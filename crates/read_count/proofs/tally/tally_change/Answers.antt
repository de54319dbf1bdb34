-- By what `differ` gives.
use lib.Dec.{eqb}
use native.Mathlib.Omega.{arith}
use Rattle.read_count.proofs.Laws.{bit_le}
use Rattle.read_count.proofs.tally.tally_change.Goals as goal

pub overflow_add-result : goal.overflow_add-result
overflow_add-result c = let a = c.args in rw c.differ.ensures (omega (arith, bit_le (eqb a.t.runs a.t.first), c.requires.blocks))

pub returns : goal.returns
returns c = rw c.differ.ensures
