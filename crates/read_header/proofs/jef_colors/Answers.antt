-- Each cell that was passed has its colour. Assumes nothing.
use borrow.Author.Tests.{lt-ltb, le-ltb, lt-leb, le-leb}
use Prim.Native.Nat.{◌+◌, ◌*◌}
use mathlib.Core.Bool.{and-false}
use native.Mathlib.Omega.{arith}
use lib.ListN.{length}
use Rattle.rules.specs.Jef.{jef_count, jef_stored}
use Rattle.read_header.proofs.Colors.{filled-start, filled_more, jef-most}
use Rattle.read_header.proofs.jef_colors.Goals as goal

pub loop-k-init : goal.loop-k-init
loop-k-init c = filled-start (jef-most _ c.jef_count-n.ensures)

pub overflow_mul-k : goal.overflow_mul-k
overflow_mul-k c = omega arith

pub overflow_add-k : goal.overflow_add-k
overflow_add-k c = omega arith

pub shape_of-colors-then-file-k : goal.shape_of-colors-then-file-k
shape_of-colors-then-file-k c = c.loop-k.invariant.size

pub returns-then-file-k : goal.returns-then-file-k
unfolding jef_stored
returns-then-file-k c = let f = c.args.file.now in record {
  room = omega arith;
  here = c.loop-k.invariant.held;
  past = λ j l. rw (lt-leb (120 + 4 * j) (length f) (omega arith), and-false);
}

pub jef_cell-requires : goal.jef_cell-requires
jef_cell-requires c = (omega arith, omega arith)

pub loop-k-preserved : goal.loop-k-preserved
unfolding jef_stored
loop-k-preserved c = let h = c.loop-k in let f = c.args.file.now in
    filled_more c.jef_cell.result (omega arith) (omega arith)
    (rw (lt-ltb h.k (jef_count f) (omega arith), le-leb (120 + 4 * h.k) (length f) (omega arith)) c.jef_cell.ensures) h.invariant

pub shape_of-colors : goal.shape_of-colors
shape_of-colors c = c.loop-k.invariant.size

pub returns : goal.returns
unfolding jef_stored
returns c = record {
  room = omega arith;
  here = λ j l. c.loop-k.invariant.held j (omega arith);
  past = λ j l. rw (le-ltb j (jef_count c.args.file.now) (omega arith));
}
