-- Each kind of control by its law.
use Prim.Native.Nat.{◌+◌}
use mathlib.Core.Path.{refl}
use lib.ListN.{get_or}
use native.Mathlib.Omega.{arith}
use Rattle.read_passes.proofs.Found.{control_x, control_y, Control, is-stitch, is-change, is-end, is-jump, few}
use Rattle.read_count.proofs.Laws.{tallying-small, passed}
use Rattle.read_count.proofs.pairs.pass_control.Goals as goal

pub overflow_cast-k : goal.overflow_cast-k
overflow_cast-k c = omega (arith, c.shared_slice_known-2-1.given (c.args.at + 1))

pub bounds-table-bytes : goal.bounds-table-bytes
bounds-table-bytes c =
    omega (arith, c.shared_slice_known-2-1.given (c.args.at + 1), c.requires.kinds.long)

pub tally_one-requires : goal.tally_one-requires
tally_one-requires c = record { small_tally = tallying-small c.requires.tallying; s_bound = omega arith }

pub returns-then-k-eq1-clause-tallying_2 : goal.returns-then-k-eq1-clause-tallying_2
returns-then-k-eq1-clause-tallying_2 c =
    let control : let a = c.args in let s = a.bytes.now in
    Control a.jef s a.at (get_or a.table.now (get_or s (a.at + 1) 0) 0) (control_x s a.at) (control_y s a.at) = record {
      room = omega (arith, c.requires.at_in_bounds);
      mark = c.requires.at_value;
      kind = c.requires.kinds.kind _ (omega (arith, c.shared_slice_known-2-1.given (c.args.at + 1)));
      dx = refl;
      dy = refl;
    } in
    let g = control in
    (passed c.requires.tallying (omega arith) (is-jump g c.if-k-eq1.true) c.tally_one.ensures refl).0

pub tally_change-requires : goal.tally_change-requires
tally_change-requires c = tallying-small c.requires.tallying

pub returns-then-k-eq2-clause-tallying_2 : goal.returns-then-k-eq2-clause-tallying_2
returns-then-k-eq2-clause-tallying_2 c =
    let control : let a = c.args in let s = a.bytes.now in
    Control a.jef s a.at (get_or a.table.now (get_or s (a.at + 1) 0) 0) (control_x s a.at) (control_y s a.at) = record {
      room = omega (arith, c.requires.at_in_bounds);
      mark = c.requires.at_value;
      kind = c.requires.kinds.kind _ (omega (arith, c.shared_slice_known-2-1.given (c.args.at + 1)));
      dx = refl;
      dy = refl;
    } in
    let g = control in
    (passed c.requires.tallying (omega arith) (is-change g c.if-k-eq2.true) c.tally_change.ensures refl).0

pub tally_one-requires-then-k-eq0 : goal.tally_one-requires-then-k-eq0
tally_one-requires-then-k-eq0 c = record { small_tally = tallying-small c.requires.tallying; s_bound = omega arith }

pub returns-then-k-eq0-clause-tallying_2 : goal.returns-then-k-eq0-clause-tallying_2
returns-then-k-eq0-clause-tallying_2 c =
    let control : let a = c.args in let s = a.bytes.now in
    Control a.jef s a.at (get_or a.table.now (get_or s (a.at + 1) 0) 0) (control_x s a.at) (control_y s a.at) = record {
      room = omega (arith, c.requires.at_in_bounds);
      mark = c.requires.at_value;
      kind = c.requires.kinds.kind _ (omega (arith, c.shared_slice_known-2-1.given (c.args.at + 1)));
      dx = refl;
      dy = refl;
    } in
    let g = control in
    (passed c.requires.tallying (omega arith) (is-stitch g c.if-k-eq0.true) c.tally_one-then-k-eq0.ensures refl).0

pub returns-clause-tallying_2 : goal.returns-clause-tallying_2
returns-clause-tallying_2 c =
    let control : let a = c.args in let s = a.bytes.now in
    Control a.jef s a.at (get_or a.table.now (get_or s (a.at + 1) 0) 0) (control_x s a.at) (control_y s a.at) = record {
      room = omega (arith, c.requires.at_in_bounds);
      mark = c.requires.at_value;
      kind = c.requires.kinds.kind _ (omega (arith, c.shared_slice_known-2-1.given (c.args.at + 1)));
      dx = refl;
      dy = refl;
    } in
    let g = control in
    (passed c.requires.tallying (omega arith) (is-end g (omega (arith, few g))) refl refl).0
