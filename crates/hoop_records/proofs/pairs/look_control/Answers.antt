-- By the kind of the control.
use Rattle.std.specs.Prelude.{Some}
use Prim.Native.Nat.{◌+◌}
use mathlib.Core.Bool.{false}
use native.Mathlib.Omega.{arith}
use borrow.Author.Tests.{eqb-true, eqb-false}
use lib.Dec.{eqb}
use lib.ListN.{get_or}
use Rattle.laws.specs.Tests.{by-test}
use Rattle.read_records.specs.Firsts.{pair_row}
use Rattle.read_passes.proofs.Found.{Control, is-stitch, is-end, is-change, is-jump, few}
use Rattle.read_passes.proofs.Turns.{read, reads}
use Rattle.hoop_records.specs.Looks.{stepped, Leads}
use Rattle.hoop_records.specs.Rows.{Looks}
use Rattle.hoop_records.proofs.Turns.{can-step, looks-sewn, looks-jump, looks-change, looks-end}
use Rattle.hoop_records.proofs.pairs.look_control.Goals as goal

-- a byte of the file is one of the table's indices
pub overflow_cast-k : goal.overflow_cast-k
overflow_cast-k c = omega (arith, c.shared_slice_known-2-1.given (c.args.w.at + 1))

pub bounds-table-c : goal.bounds-table-c
bounds-table-c c =
    omega (arith, c.shared_slice_known-2-1.given (c.args.w.at + 1), c.requires.kinds.long)

pub sew-requires : goal.sew-requires
sew-requires c =
    let control : let a = c.args in
    let k = get_or a.table.now (get_or a.bytes.now (a.w.at + 1) 0) 0 in
    Control a.jef a.bytes.now a.w.at k (read c.step_x-dx.result) (read c.step_y-dy.result) = let u = c.step_x-dx in
    record {
      room = omega (arith, c.requires.at_in_bounds);
      mark = c.requires.at_value;
      kind = c.requires.kinds.kind _ (omega (arith, c.shared_slice_known-2-1.given (c.args.w.at + 1)));
      dx = reads u.type_inv u.ensures;
      dy = reads c.step_y-dy.type_inv c.step_y-dy.ensures;
    } in
    can-step (pair_row c.args.jef) c.requires.looking (is-stitch control c.if-k-eq0.true)

pub returns-then-k-eq0 : goal.returns-then-k-eq0
returns-then-k-eq0 c =
    let control : let a = c.args in
    let k = get_or a.table.now (get_or a.bytes.now (a.w.at + 1) 0) 0 in
    Control a.jef a.bytes.now a.w.at k (read c.step_x-dx.result) (read c.step_y-dy.result) = let u = c.step_x-dx in
    record {
      room = omega (arith, c.requires.at_in_bounds);
      mark = c.requires.at_value;
      kind = c.requires.kinds.kind _ (omega (arith, c.shared_slice_known-2-1.given (c.args.w.at + 1)));
      dx = reads u.type_inv u.ensures;
      dy = reads c.step_y-dy.type_inv c.step_y-dy.ensures;
    } in
    rw c.sew.ensures (looks-sewn (pair_row c.args.jef) c.requires.looking (is-stitch control c.if-k-eq0.true))

pub returns-then-k-eq3 : goal.returns-then-k-eq3
returns-then-k-eq3 c =
    let control : let a = c.args in
    let k = get_or a.table.now (get_or a.bytes.now (a.w.at + 1) 0) 0 in
    Control a.jef a.bytes.now a.w.at k (read c.step_x-dx.result) (read c.step_y-dy.result) = let u = c.step_x-dx in
    record {
      room = omega (arith, c.requires.at_in_bounds);
      mark = c.requires.at_value;
      kind = c.requires.kinds.kind _ (omega (arith, c.shared_slice_known-2-1.given (c.args.w.at + 1)));
      dx = reads u.type_inv u.ensures;
      dy = reads c.step_y-dy.type_inv c.step_y-dy.ensures;
    } in
    let e = is-end control c.if-k-eq3.true in
    rw c.pass_to.ensures (looks-end (pair_row c.args.jef) c.requires.looking (omega (arith, c.requires.at_in_bounds)) e)

pub hop-requires : goal.hop-requires
hop-requires c =
    let control : let a = c.args in
    let k = get_or a.table.now (get_or a.bytes.now (a.w.at + 1) 0) 0 in
    Control a.jef a.bytes.now a.w.at k (read c.step_x-dx.result) (read c.step_y-dy.result) = let u = c.step_x-dx in
    record {
      room = omega (arith, c.requires.at_in_bounds);
      mark = c.requires.at_value;
      kind = c.requires.kinds.kind _ (omega (arith, c.shared_slice_known-2-1.given (c.args.w.at + 1)));
      dx = reads u.type_inv u.ensures;
      dy = reads c.step_y-dy.type_inv c.step_y-dy.ensures;
    } in
    let hops : let a = c.args in
    let x = read c.step_x-dx.result in let y = read c.step_y-dy.result in
    Leads a.w x y 4 × Looks (pair_row a.jef) a.h a.bytes.now a.w (Some (stepped false a.w x y 4)) = let a = c.args in
    let g = control in
    let l = c.requires.looking in
    let k = get_or a.table.now (get_or a.bytes.now (a.w.at + 1) 0) 0 in
    by-test (eqb k 2)
    (λ t. let e = is-change g (eqb-true k 2 t) in (can-step (pair_row a.jef) l e, looks-change (pair_row a.jef) l e))
    (λ t. let e = is-jump g (omega (arith, few g, eqb-false k 2 t, c.if-k-eq0.false, c.if-k-eq3.false)) in
    (can-step (pair_row a.jef) l e, looks-jump (pair_row a.jef) l e)) in
    hops.0

pub returns : goal.returns
returns c =
    let control : let a = c.args in
    let k = get_or a.table.now (get_or a.bytes.now (a.w.at + 1) 0) 0 in
    Control a.jef a.bytes.now a.w.at k (read c.step_x-dx.result) (read c.step_y-dy.result) = let u = c.step_x-dx in
    record {
      room = omega (arith, c.requires.at_in_bounds);
      mark = c.requires.at_value;
      kind = c.requires.kinds.kind _ (omega (arith, c.shared_slice_known-2-1.given (c.args.w.at + 1)));
      dx = reads u.type_inv u.ensures;
      dy = reads c.step_y-dy.type_inv c.step_y-dy.ensures;
    } in
    let hops : let a = c.args in
    let x = read c.step_x-dx.result in let y = read c.step_y-dy.result in
    Leads a.w x y 4 × Looks (pair_row a.jef) a.h a.bytes.now a.w (Some (stepped false a.w x y 4)) = let a = c.args in
    let g = control in
    let l = c.requires.looking in
    let k = get_or a.table.now (get_or a.bytes.now (a.w.at + 1) 0) 0 in
    by-test (eqb k 2)
    (λ t. let e = is-change g (eqb-true k 2 t) in (can-step (pair_row a.jef) l e, looks-change (pair_row a.jef) l e))
    (λ t. let e = is-jump g (omega (arith, few g, eqb-false k 2 t, c.if-k-eq0.false, c.if-k-eq3.false)) in
    (can-step (pair_row a.jef) l e, looks-jump (pair_row a.jef) l e)) in
    rw c.hop.ensures hops.1
