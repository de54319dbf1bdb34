-- Each cell that was passed has its colour. Assumes nothing.
use borrow.Author.Tests.{lt-leb, le-leb}
use Prim.Native.Nat.{◌+◌}
use native.Mathlib.Omega.{arith}
use lib.ListN.{get_or}
use Rattle.rules.specs.Pec.{pec_stored}
use Rattle.read_header.proofs.Colors.{filled-start, filled_more}
use Rattle.read_header.proofs.pec_colors.Goals as goal

pub overflow_add-n : goal.overflow_add-n
overflow_add-n c = omega arith

pub loop-k-init : goal.loop-k-init
loop-k-init c = filled-start (omega (arith, c.well_formed))

pub pec_cell-requires : goal.pec_cell-requires
pec_cell-requires c = omega arith

pub loop-k-preserved : goal.loop-k-preserved
unfolding pec_stored
loop-k-preserved c = let h = c.loop-k in let a = c.args in
    filled_more c.pec_cell.result (omega arith) (omega arith)
    (rw (le-leb h.k (get_or a.file.now (a.start + 48) 0) (omega arith)) c.pec_cell.ensures) h.invariant

pub shape_of-colors : goal.shape_of-colors
shape_of-colors c = c.loop-k.invariant.size

pub returns : goal.returns
unfolding pec_stored
returns c = let a = c.args in record {
  room = omega arith;
  here = λ j l. c.loop-k.invariant.held j (omega arith);
  past = λ j l. rw (lt-leb j (get_or a.file.now (a.start + 48) 0) (omega arith));
}
