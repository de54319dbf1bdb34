-- The entry of a byte, and its thread. Assumes nothing.
use Prim.Native.Nat.{◌+◌}
use mathlib.Core.Path.{◌≡◌}
use native.Mathlib.Omega.{arith}
use Rattle.rules.specs.Layout.{from_chart}
use Rattle.rules.specs.Pec.{pec_entry}
use Rattle.read_header.proofs.pec_cell.Goals as goal

pub returns : goal.returns
unfolding from_chart pec_entry
returns c = let a = c.args in
    let p : a.start + 49 + a.k ≡ a.start + (49 + a.k) = omega arith in
    rw (p, ← c.byte_at-entry.ensures) (rw c.pec_thread.ensures at c.cell_of.ensures)
