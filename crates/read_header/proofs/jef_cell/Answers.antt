-- The entry of a number, and its thread. Assumes nothing.
use Prim.Native.Nat.{◌+◌, ◌*◌}
use native.Mathlib.Omega.{arith}
use Rattle.rules.specs.Jef.{jef_entry}
use Rattle.rules.specs.Layout.{from_chart}
use Rattle.read_header.proofs.Colors.{word-there, word-missing}
use Rattle.read_header.proofs.jef_cell.Goals as goal

pub returns-in_default : goal.returns-in_default
returns-in_default c = let a = c.args in
    absurd (omega (arith, word-missing (116 + 4 * a.k) a.file.now c.i32le-w.ensures c.in_default.is))

pub returns : goal.returns
unfolding from_chart jef_entry
returns c = let a = c.args in
    let t = word-there (116 + 4 * a.k) a.file.now c.i32le-w.ensures
    c.in-Some.is (omega arith) in
    rw (t.1, ← c.unsigned_abs.ensures.value) (rw c.jef_thread.ensures at c.cell_of.ensures)
