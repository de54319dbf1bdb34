-- By the kind of the control.
use Prim.Native.Nat.{◌+◌}
use native.Mathlib.Omega.{arith}
use lib.ListN.{get_or}
use Rattle.read_passes.proofs.Turns.{reads, read}
use Rattle.read_fill.proofs.Laws.{can-sew, can-hop, can-change, turn_end, turn-sewn, turn-hopped, turn-changed}
use Rattle.read_passes.proofs.Found.{Control, is-stitch, is-end, is-change, is-jump, few}
use Rattle.read_fill.proofs.pairs.turn_control.Goals as goal

-- a byte of the file is one of the table's indices
pub overflow_cast-k : goal.overflow_cast-k
overflow_cast-k c = omega (arith, c.shared_slice_known-2-1.given (c.args.at + 1))

pub bounds-table-c : goal.bounds-table-c
bounds-table-c c =
    omega (arith, c.shared_slice_known-2-1.given (c.args.at + 1), c.requires.kinds.long)

pub sew-requires : goal.sew-requires
sew-requires c =
    let control : let a = c.args in let u = c.step_x-dx.result in
    let k = get_or a.table.now (get_or a.bytes.now (a.at + 1) 0) 0 in
    Control a.jef a.bytes.now a.at k (read u) (read c.step_y-dy.result) = let u = c.step_x-dx in
    record {
      room = omega (arith, c.requires.at_in_bounds);
      mark = c.requires.at_value;
      kind = c.requires.kinds.kind _ (omega (arith, c.shared_slice_known-2-1.given (c.args.at + 1)));
      dx = reads u.type_inv u.ensures;
      dy = reads c.step_y-dy.type_inv c.step_y-dy.ensures;
    } in
    let pp = can-sew c.requires.room (is-stitch control c.if-k-eq0.true) in
    record { small = pp.0; reach = pp.1.0; y_in_bounds = pp.1.1 }

pub returns-then-k-eq0 : goal.returns-then-k-eq0
returns-then-k-eq0 c =
    let control : let a = c.args in let u = c.step_x-dx.result in
    let k = get_or a.table.now (get_or a.bytes.now (a.at + 1) 0) 0 in
    Control a.jef a.bytes.now a.at k (read u) (read c.step_y-dy.result) = let u = c.step_x-dx in
    record {
      room = omega (arith, c.requires.at_in_bounds);
      mark = c.requires.at_value;
      kind = c.requires.kinds.kind _ (omega (arith, c.shared_slice_known-2-1.given (c.args.at + 1)));
      dx = reads u.type_inv u.ensures;
      dy = reads c.step_y-dy.type_inv c.step_y-dy.ensures;
    } in
    let g = control in
    turn-sewn (omega arith) (is-stitch g c.if-k-eq0.true) (c.sew.ensures.value, c.sew.ensures.places_value)

pub returns-then-k-eq3 : goal.returns-then-k-eq3
returns-then-k-eq3 c =
    let control : let a = c.args in let u = c.step_x-dx.result in
    let k = get_or a.table.now (get_or a.bytes.now (a.at + 1) 0) 0 in
    Control a.jef a.bytes.now a.at k (read u) (read c.step_y-dy.result) = let u = c.step_x-dx in
    record {
      room = omega (arith, c.requires.at_in_bounds);
      mark = c.requires.at_value;
      kind = c.requires.kinds.kind _ (omega (arith, c.shared_slice_known-2-1.given (c.args.at + 1)));
      dx = reads u.type_inv u.ensures;
      dy = reads c.step_y-dy.type_inv c.step_y-dy.ensures;
    } in
    let g = control in turn_end (omega arith) (is-end g c.if-k-eq3.true)

pub change-requires : goal.change-requires
change-requires c =
    let control : let a = c.args in let u = c.step_x-dx.result in
    let k = get_or a.table.now (get_or a.bytes.now (a.at + 1) 0) 0 in
    Control a.jef a.bytes.now a.at k (read u) (read c.step_y-dy.result) = let u = c.step_x-dx in
    record {
      room = omega (arith, c.requires.at_in_bounds);
      mark = c.requires.at_value;
      kind = c.requires.kinds.kind _ (omega (arith, c.shared_slice_known-2-1.given (c.args.at + 1)));
      dx = reads u.type_inv u.ensures;
      dy = reads c.step_y-dy.type_inv c.step_y-dy.ensures;
    } in
    let pp = can-change c.requires.room (is-change control c.if-k-eq2.true) in
    record { small = pp.0; reach = pp.1.0; run_in_bounds = pp.1.1.0; begun_in_bounds = pp.1.1.1 }

pub returns-then-k-eq2 : goal.returns-then-k-eq2
returns-then-k-eq2 c =
    let control : let a = c.args in let u = c.step_x-dx.result in
    let k = get_or a.table.now (get_or a.bytes.now (a.at + 1) 0) 0 in
    Control a.jef a.bytes.now a.at k (read u) (read c.step_y-dy.result) = let u = c.step_x-dx in
    record {
      room = omega (arith, c.requires.at_in_bounds);
      mark = c.requires.at_value;
      kind = c.requires.kinds.kind _ (omega (arith, c.shared_slice_known-2-1.given (c.args.at + 1)));
      dx = reads u.type_inv u.ensures;
      dy = reads c.step_y-dy.type_inv c.step_y-dy.ensures;
    } in
    let g = control in
    turn-changed (omega arith) (is-change g c.if-k-eq2.true) (c.change.ensures.value, (c.change.ensures.runs_value, c.change.ensures.blocks_value))

pub hop-requires : goal.hop-requires
hop-requires c =
    let control : let a = c.args in let u = c.step_x-dx.result in
    let k = get_or a.table.now (get_or a.bytes.now (a.at + 1) 0) 0 in
    Control a.jef a.bytes.now a.at k (read u) (read c.step_y-dy.result) = let u = c.step_x-dx in
    record {
      room = omega (arith, c.requires.at_in_bounds);
      mark = c.requires.at_value;
      kind = c.requires.kinds.kind _ (omega (arith, c.shared_slice_known-2-1.given (c.args.at + 1)));
      dx = reads u.type_inv u.ensures;
      dy = reads c.step_y-dy.type_inv c.step_y-dy.ensures;
    } in
    let g = control in
    let pp = can-hop c.requires.room (is-jump g (omega (arith, few g))) in
    record { small = pp.0; reach = pp.1.0; run_in_bounds = pp.1.1 }

pub returns : goal.returns
returns c =
    let control : let a = c.args in let u = c.step_x-dx.result in
    let k = get_or a.table.now (get_or a.bytes.now (a.at + 1) 0) 0 in
    Control a.jef a.bytes.now a.at k (read u) (read c.step_y-dy.result) = let u = c.step_x-dx in
    record {
      room = omega (arith, c.requires.at_in_bounds);
      mark = c.requires.at_value;
      kind = c.requires.kinds.kind _ (omega (arith, c.shared_slice_known-2-1.given (c.args.at + 1)));
      dx = reads u.type_inv u.ensures;
      dy = reads c.step_y-dy.type_inv c.step_y-dy.ensures;
    } in
    let g = control in
    turn-hopped (omega arith) (is-jump g (omega (arith, few g))) (c.hop.ensures.value, c.hop.ensures.runs_value)
