-- What is drawn is as far as the place; what comes is what the commands left draw.
use Rattle.std.proofs.Common.{◌≡◌, get_or, pos, sym, refl, ◌∙◌, arith, to_z-of_z, w32, to_z, of_z, ne_eqb}
use Rattle.laws.specs.Ints.{ret}
use Rattle.laws.specs.Listing.{Listed, listed}
use Rattle.thumbnail_tables.specs.Cells.{From}
use Rattle.thumbnail_tables.proofs.Places.{index-asks, at-index, framed_at, Seen, seen}
use Rattle.thumbnail_tables.proofs.Turns.{drawing-start, stitched, passed, change-room, changed, last-room, drawn-all}
use Rattle.thumbnail_tables.proofs.draw_looked.Goals as goal
use Rattle.thumbnail_tables.proofs.draw_looked.Goals.{then-kind-eq3, else-kind-eq3}

pub loop-i-init : goal.loop-i-init
loop-i-init c =
    rw (to_z-of_z c.ranges.left, to_z-of_z c.ranges.top)
    (drawing-start c.list_len-n.ensures c.pec_icon_blank-icon.ensures c.pec_icon_blank-block.ensures (omega (arith, c.requires.kinds_in_bounds)))

pub bounds-kinds-i : goal.bounds-kinds-i
bounds-kinds-i c =
    let here : Listed c.args.xs.now c.args.ys.now c.args.kinds.now c.loop-i.i = listed c.loop-i.invariant.count c.loop-i-test.true in
    here.kind

pub offset_bounds-xs-i : goal.offset_bounds-xs-i
offset_bounds-xs-i c =
    let here : Listed c.args.xs.now c.args.ys.now c.args.kinds.now c.loop-i.i = listed c.loop-i.invariant.count c.loop-i-test.true in
    omega (arith, here)

pub bounds-xs-i : goal.bounds-xs-i
bounds-xs-i c =
    let here : Listed c.args.xs.now c.args.ys.now c.args.kinds.now c.loop-i.i = listed c.loop-i.invariant.count c.loop-i-test.true in
    here.across

pub index_of-x-requires : goal.index_of-x-requires
index_of-x-requires c =
    let a = c.args in
    let i = c.loop-i.i in
    let framed : From a.left a.w (get_or a.xs.now i (pos 0)) × From a.top a.h (get_or a.ys.now i (pos 0)) =
    framed_at a.left a.top a.w a.h a.xs.now a.ys.now a.kinds.now i c.requires.framed (omega (arith, c.loop-i.invariant.count)) in
    let across : to_z w32 (of_z w32 (get_or c.args.xs.now c.loop-i.i (pos 0))) ≡ get_or c.args.xs.now c.loop-i.i (pos 0) = ret w32 _ c.index_of-arg-1.given in
    index-asks (to_z-of_z c.ranges.left) across c.requires.left_bound.0.0 c.requires.left_bound.0.1 framed.0

pub offset_bounds-ys-i : goal.offset_bounds-ys-i
offset_bounds-ys-i c =
    let here : Listed c.args.xs.now c.args.ys.now c.args.kinds.now c.loop-i.i = listed c.loop-i.invariant.count c.loop-i-test.true in
    omega (arith, here)

pub bounds-ys-i : goal.bounds-ys-i
bounds-ys-i c =
    let here : Listed c.args.xs.now c.args.ys.now c.args.kinds.now c.loop-i.i = listed c.loop-i.invariant.count c.loop-i-test.true in
    here.down

pub index_of-y-requires : goal.index_of-y-requires
index_of-y-requires c =
    let a = c.args in
    let i = c.loop-i.i in
    let framed : From a.left a.w (get_or a.xs.now i (pos 0)) × From a.top a.h (get_or a.ys.now i (pos 0)) =
    framed_at a.left a.top a.w a.h a.xs.now a.ys.now a.kinds.now i c.requires.framed (omega (arith, c.loop-i.invariant.count)) in
    let down : to_z w32 (of_z w32 (get_or c.args.ys.now c.loop-i.i (pos 0))) ≡ get_or c.args.ys.now c.loop-i.i (pos 0) = ret w32 _ c.index_of-arg-then-kind-eq0-1.given in
    index-asks (to_z-of_z c.ranges.top) down c.requires.left_bound.1.0 c.requires.left_bound.1.1 framed.1

pub slice_bounds-set_bit-end : goal.slice_bounds-set_bit-end
slice_bounds-set_bit-end c = sym c.loop-i.invariant.icon_long

pub offset_bounds-columns-x : goal.offset_bounds-columns-x
offset_bounds-columns-x c =
    let a = c.args in
    let i = c.loop-i.i in
    let framed : From a.left a.w (get_or a.xs.now i (pos 0)) × From a.top a.h (get_or a.ys.now i (pos 0)) =
    framed_at a.left a.top a.w a.h a.xs.now a.ys.now a.kinds.now i c.requires.framed (omega (arith, c.loop-i.invariant.count)) in
    let across : to_z w32 (of_z w32 (get_or c.args.xs.now c.loop-i.i (pos 0))) ≡ get_or c.args.xs.now c.loop-i.i (pos 0) = ret w32 _ c.index_of-arg-1.given in
    let down : to_z w32 (of_z w32 (get_or c.args.ys.now c.loop-i.i (pos 0))) ≡ get_or c.args.ys.now c.loop-i.i (pos 0) = ret w32 _ c.index_of-arg-then-kind-eq0-1.given in
    let x = at-index (to_z-of_z c.ranges.left) across c.index_of-x.ensures framed.0 in
    let y = at-index (to_z-of_z c.ranges.top) down c.index_of-y.ensures framed.1 in
    let b = c.requires.left_bound in
    let cells : Seen a.columns.now a.rows.now c.index_of-x.result c.index_of-y.result × Seen a.bcolumns.now a.brows.now c.index_of-x.result c.index_of-y.result =
    (seen a.w a.h c.requires.all_inside.0 b.0.1 b.1.1 x y, seen a.w a.h c.requires.all_inside.1 b.0.1 b.1.1 x y) in
    omega (arith, cells.0)

pub bounds-columns-x : goal.bounds-columns-x
bounds-columns-x c =
    let a = c.args in
    let i = c.loop-i.i in
    let framed : From a.left a.w (get_or a.xs.now i (pos 0)) × From a.top a.h (get_or a.ys.now i (pos 0)) =
    framed_at a.left a.top a.w a.h a.xs.now a.ys.now a.kinds.now i c.requires.framed (omega (arith, c.loop-i.invariant.count)) in
    let across : to_z w32 (of_z w32 (get_or c.args.xs.now c.loop-i.i (pos 0))) ≡ get_or c.args.xs.now c.loop-i.i (pos 0) = ret w32 _ c.index_of-arg-1.given in
    let down : to_z w32 (of_z w32 (get_or c.args.ys.now c.loop-i.i (pos 0))) ≡ get_or c.args.ys.now c.loop-i.i (pos 0) = ret w32 _ c.index_of-arg-then-kind-eq0-1.given in
    let x = at-index (to_z-of_z c.ranges.left) across c.index_of-x.ensures framed.0 in
    let y = at-index (to_z-of_z c.ranges.top) down c.index_of-y.ensures framed.1 in
    let b = c.requires.left_bound in
    let cells : Seen a.columns.now a.rows.now c.index_of-x.result c.index_of-y.result × Seen a.bcolumns.now a.brows.now c.index_of-x.result c.index_of-y.result =
    (seen a.w a.h c.requires.all_inside.0 b.0.1 b.1.1 x y, seen a.w a.h c.requires.all_inside.1 b.0.1 b.1.1 x y) in
    cells.0.column

pub offset_bounds-rows-y : goal.offset_bounds-rows-y
offset_bounds-rows-y c =
    let a = c.args in
    let i = c.loop-i.i in
    let framed : From a.left a.w (get_or a.xs.now i (pos 0)) × From a.top a.h (get_or a.ys.now i (pos 0)) =
    framed_at a.left a.top a.w a.h a.xs.now a.ys.now a.kinds.now i c.requires.framed (omega (arith, c.loop-i.invariant.count)) in
    let across : to_z w32 (of_z w32 (get_or c.args.xs.now c.loop-i.i (pos 0))) ≡ get_or c.args.xs.now c.loop-i.i (pos 0) = ret w32 _ c.index_of-arg-1.given in
    let down : to_z w32 (of_z w32 (get_or c.args.ys.now c.loop-i.i (pos 0))) ≡ get_or c.args.ys.now c.loop-i.i (pos 0) = ret w32 _ c.index_of-arg-then-kind-eq0-1.given in
    let x = at-index (to_z-of_z c.ranges.left) across c.index_of-x.ensures framed.0 in
    let y = at-index (to_z-of_z c.ranges.top) down c.index_of-y.ensures framed.1 in
    let b = c.requires.left_bound in
    let cells : Seen a.columns.now a.rows.now c.index_of-x.result c.index_of-y.result × Seen a.bcolumns.now a.brows.now c.index_of-x.result c.index_of-y.result =
    (seen a.w a.h c.requires.all_inside.0 b.0.1 b.1.1 x y, seen a.w a.h c.requires.all_inside.1 b.0.1 b.1.1 x y) in
    omega (arith, cells.0)

pub bounds-rows-y : goal.bounds-rows-y
bounds-rows-y c =
    let a = c.args in
    let i = c.loop-i.i in
    let framed : From a.left a.w (get_or a.xs.now i (pos 0)) × From a.top a.h (get_or a.ys.now i (pos 0)) =
    framed_at a.left a.top a.w a.h a.xs.now a.ys.now a.kinds.now i c.requires.framed (omega (arith, c.loop-i.invariant.count)) in
    let across : to_z w32 (of_z w32 (get_or c.args.xs.now c.loop-i.i (pos 0))) ≡ get_or c.args.xs.now c.loop-i.i (pos 0) = ret w32 _ c.index_of-arg-1.given in
    let down : to_z w32 (of_z w32 (get_or c.args.ys.now c.loop-i.i (pos 0))) ≡ get_or c.args.ys.now c.loop-i.i (pos 0) = ret w32 _ c.index_of-arg-then-kind-eq0-1.given in
    let x = at-index (to_z-of_z c.ranges.left) across c.index_of-x.ensures framed.0 in
    let y = at-index (to_z-of_z c.ranges.top) down c.index_of-y.ensures framed.1 in
    let b = c.requires.left_bound in
    let cells : Seen a.columns.now a.rows.now c.index_of-x.result c.index_of-y.result × Seen a.bcolumns.now a.brows.now c.index_of-x.result c.index_of-y.result =
    (seen a.w a.h c.requires.all_inside.0 b.0.1 b.1.1 x y, seen a.w a.h c.requires.all_inside.1 b.0.1 b.1.1 x y) in
    cells.0.row

pub set_bit-requires : goal.set_bit-requires
set_bit-requires c =
    let a = c.args in
    let i = c.loop-i.i in
    let framed : From a.left a.w (get_or a.xs.now i (pos 0)) × From a.top a.h (get_or a.ys.now i (pos 0)) =
    framed_at a.left a.top a.w a.h a.xs.now a.ys.now a.kinds.now i c.requires.framed (omega (arith, c.loop-i.invariant.count)) in
    let across : to_z w32 (of_z w32 (get_or c.args.xs.now c.loop-i.i (pos 0))) ≡ get_or c.args.xs.now c.loop-i.i (pos 0) = ret w32 _ c.index_of-arg-1.given in
    let down : to_z w32 (of_z w32 (get_or c.args.ys.now c.loop-i.i (pos 0))) ≡ get_or c.args.ys.now c.loop-i.i (pos 0) = ret w32 _ c.index_of-arg-then-kind-eq0-1.given in
    let x = at-index (to_z-of_z c.ranges.left) across c.index_of-x.ensures framed.0 in
    let y = at-index (to_z-of_z c.ranges.top) down c.index_of-y.ensures framed.1 in
    let b = c.requires.left_bound in
    let cells : Seen a.columns.now a.rows.now c.index_of-x.result c.index_of-y.result × Seen a.bcolumns.now a.brows.now c.index_of-x.result c.index_of-y.result =
    (seen a.w a.h c.requires.all_inside.0 b.0.1 b.1.1 x y, seen a.w a.h c.requires.all_inside.1 b.0.1 b.1.1 x y) in
    (c.loop-i.invariant.icon_long, cells.0.cells)

pub slice_bounds-set_bit-end-then-kind-eq0 : goal.slice_bounds-set_bit-end-then-kind-eq0
slice_bounds-set_bit-end-then-kind-eq0 c = sym c.loop-i.invariant.block_long

pub offset_bounds-bcolumns-x : goal.offset_bounds-bcolumns-x
offset_bounds-bcolumns-x c =
    let a = c.args in
    let i = c.loop-i.i in
    let framed : From a.left a.w (get_or a.xs.now i (pos 0)) × From a.top a.h (get_or a.ys.now i (pos 0)) =
    framed_at a.left a.top a.w a.h a.xs.now a.ys.now a.kinds.now i c.requires.framed (omega (arith, c.loop-i.invariant.count)) in
    let across : to_z w32 (of_z w32 (get_or c.args.xs.now c.loop-i.i (pos 0))) ≡ get_or c.args.xs.now c.loop-i.i (pos 0) = ret w32 _ c.index_of-arg-1.given in
    let down : to_z w32 (of_z w32 (get_or c.args.ys.now c.loop-i.i (pos 0))) ≡ get_or c.args.ys.now c.loop-i.i (pos 0) = ret w32 _ c.index_of-arg-then-kind-eq0-1.given in
    let x = at-index (to_z-of_z c.ranges.left) across c.index_of-x.ensures framed.0 in
    let y = at-index (to_z-of_z c.ranges.top) down c.index_of-y.ensures framed.1 in
    let b = c.requires.left_bound in
    let cells : Seen a.columns.now a.rows.now c.index_of-x.result c.index_of-y.result × Seen a.bcolumns.now a.brows.now c.index_of-x.result c.index_of-y.result =
    (seen a.w a.h c.requires.all_inside.0 b.0.1 b.1.1 x y, seen a.w a.h c.requires.all_inside.1 b.0.1 b.1.1 x y) in
    omega (arith, cells.1)

pub bounds-bcolumns-x : goal.bounds-bcolumns-x
bounds-bcolumns-x c =
    let a = c.args in
    let i = c.loop-i.i in
    let framed : From a.left a.w (get_or a.xs.now i (pos 0)) × From a.top a.h (get_or a.ys.now i (pos 0)) =
    framed_at a.left a.top a.w a.h a.xs.now a.ys.now a.kinds.now i c.requires.framed (omega (arith, c.loop-i.invariant.count)) in
    let across : to_z w32 (of_z w32 (get_or c.args.xs.now c.loop-i.i (pos 0))) ≡ get_or c.args.xs.now c.loop-i.i (pos 0) = ret w32 _ c.index_of-arg-1.given in
    let down : to_z w32 (of_z w32 (get_or c.args.ys.now c.loop-i.i (pos 0))) ≡ get_or c.args.ys.now c.loop-i.i (pos 0) = ret w32 _ c.index_of-arg-then-kind-eq0-1.given in
    let x = at-index (to_z-of_z c.ranges.left) across c.index_of-x.ensures framed.0 in
    let y = at-index (to_z-of_z c.ranges.top) down c.index_of-y.ensures framed.1 in
    let b = c.requires.left_bound in
    let cells : Seen a.columns.now a.rows.now c.index_of-x.result c.index_of-y.result × Seen a.bcolumns.now a.brows.now c.index_of-x.result c.index_of-y.result =
    (seen a.w a.h c.requires.all_inside.0 b.0.1 b.1.1 x y, seen a.w a.h c.requires.all_inside.1 b.0.1 b.1.1 x y) in
    cells.1.column

pub offset_bounds-brows-y : goal.offset_bounds-brows-y
offset_bounds-brows-y c =
    let a = c.args in
    let i = c.loop-i.i in
    let framed : From a.left a.w (get_or a.xs.now i (pos 0)) × From a.top a.h (get_or a.ys.now i (pos 0)) =
    framed_at a.left a.top a.w a.h a.xs.now a.ys.now a.kinds.now i c.requires.framed (omega (arith, c.loop-i.invariant.count)) in
    let across : to_z w32 (of_z w32 (get_or c.args.xs.now c.loop-i.i (pos 0))) ≡ get_or c.args.xs.now c.loop-i.i (pos 0) = ret w32 _ c.index_of-arg-1.given in
    let down : to_z w32 (of_z w32 (get_or c.args.ys.now c.loop-i.i (pos 0))) ≡ get_or c.args.ys.now c.loop-i.i (pos 0) = ret w32 _ c.index_of-arg-then-kind-eq0-1.given in
    let x = at-index (to_z-of_z c.ranges.left) across c.index_of-x.ensures framed.0 in
    let y = at-index (to_z-of_z c.ranges.top) down c.index_of-y.ensures framed.1 in
    let b = c.requires.left_bound in
    let cells : Seen a.columns.now a.rows.now c.index_of-x.result c.index_of-y.result × Seen a.bcolumns.now a.brows.now c.index_of-x.result c.index_of-y.result =
    (seen a.w a.h c.requires.all_inside.0 b.0.1 b.1.1 x y, seen a.w a.h c.requires.all_inside.1 b.0.1 b.1.1 x y) in
    omega (arith, cells.1)

pub bounds-brows-y : goal.bounds-brows-y
bounds-brows-y c =
    let a = c.args in
    let i = c.loop-i.i in
    let framed : From a.left a.w (get_or a.xs.now i (pos 0)) × From a.top a.h (get_or a.ys.now i (pos 0)) =
    framed_at a.left a.top a.w a.h a.xs.now a.ys.now a.kinds.now i c.requires.framed (omega (arith, c.loop-i.invariant.count)) in
    let across : to_z w32 (of_z w32 (get_or c.args.xs.now c.loop-i.i (pos 0))) ≡ get_or c.args.xs.now c.loop-i.i (pos 0) = ret w32 _ c.index_of-arg-1.given in
    let down : to_z w32 (of_z w32 (get_or c.args.ys.now c.loop-i.i (pos 0))) ≡ get_or c.args.ys.now c.loop-i.i (pos 0) = ret w32 _ c.index_of-arg-then-kind-eq0-1.given in
    let x = at-index (to_z-of_z c.ranges.left) across c.index_of-x.ensures framed.0 in
    let y = at-index (to_z-of_z c.ranges.top) down c.index_of-y.ensures framed.1 in
    let b = c.requires.left_bound in
    let cells : Seen a.columns.now a.rows.now c.index_of-x.result c.index_of-y.result × Seen a.bcolumns.now a.brows.now c.index_of-x.result c.index_of-y.result =
    (seen a.w a.h c.requires.all_inside.0 b.0.1 b.1.1 x y, seen a.w a.h c.requires.all_inside.1 b.0.1 b.1.1 x y) in
    cells.1.row

pub set_bit-requires-then-kind-eq0 : goal.set_bit-requires-then-kind-eq0
set_bit-requires-then-kind-eq0 c =
    let a = c.args in
    let i = c.loop-i.i in
    let framed : From a.left a.w (get_or a.xs.now i (pos 0)) × From a.top a.h (get_or a.ys.now i (pos 0)) =
    framed_at a.left a.top a.w a.h a.xs.now a.ys.now a.kinds.now i c.requires.framed (omega (arith, c.loop-i.invariant.count)) in
    let across : to_z w32 (of_z w32 (get_or c.args.xs.now c.loop-i.i (pos 0))) ≡ get_or c.args.xs.now c.loop-i.i (pos 0) = ret w32 _ c.index_of-arg-1.given in
    let down : to_z w32 (of_z w32 (get_or c.args.ys.now c.loop-i.i (pos 0))) ≡ get_or c.args.ys.now c.loop-i.i (pos 0) = ret w32 _ c.index_of-arg-then-kind-eq0-1.given in
    let x = at-index (to_z-of_z c.ranges.left) across c.index_of-x.ensures framed.0 in
    let y = at-index (to_z-of_z c.ranges.top) down c.index_of-y.ensures framed.1 in
    let b = c.requires.left_bound in
    let cells : Seen a.columns.now a.rows.now c.index_of-x.result c.index_of-y.result × Seen a.bcolumns.now a.brows.now c.index_of-x.result c.index_of-y.result =
    (seen a.w a.h c.requires.all_inside.0 b.0.1 b.1.1 x y, seen a.w a.h c.requires.all_inside.1 b.0.1 b.1.1 x y) in
    (c.loop-i.invariant.block_long, cells.1.cells)

pub loop-i-preserved-then-kind-eq0 : goal.loop-i-preserved-then-kind-eq0
loop-i-preserved-then-kind-eq0 c =
    let across : to_z w32 (of_z w32 (get_or c.args.xs.now c.loop-i.i (pos 0))) ≡ get_or c.args.xs.now c.loop-i.i (pos 0) = ret w32 _ c.index_of-arg-1.given in
    let down : to_z w32 (of_z w32 (get_or c.args.ys.now c.loop-i.i (pos 0))) ≡ get_or c.args.ys.now c.loop-i.i (pos 0) = ret w32 _ c.index_of-arg-then-kind-eq0-1.given in
    stitched c.loop-i.invariant c.loop-i-test.true c.if-kind-eq0.true across down c.index_of-x.ensures c.index_of-y.ensures c.set_bit.ensures c.set_bit-then-kind-eq0.ensures

pub slice_bounds-put_rows-end : goal.slice_bounds-put_rows-end
slice_bounds-put_rows-end c = sym c.loop-i.invariant.block_long

pub put_rows-to-requires : goal.put_rows-to-requires
put_rows-to-requires c = record { icon_len = c.loop-i.invariant.block_long; at_in_bounds = change-room c.loop-i.invariant c.loop-i-test.true c.if-kind-eq3.true }

pub loop-i-preserved : goal.loop-i-preserved
loop-i-preserved c =
    elim c.if-kind-eq3.branch [
      | then-kind-eq3 w ↦ rw (w.out-is, w.block-is, w.to-is)
          (changed c.loop-i.invariant c.loop-i-test.true w.if-kind-eq3.true w.put_rows-to.ensures w.pec_icon_blank-block-then-kind-eq3.ensures)
      | else-kind-eq3 w ↦ rw (w.out-is, w.block-is, w.to-is)
          (passed c.loop-i.invariant c.loop-i-test.true (ne_eqb _ 0 c.if-kind-eq0.false) (ne_eqb _ 3 w.if-kind-eq3.false))
    ]

pub slice_bounds-put_rows-end-2 : goal.slice_bounds-put_rows-end-2
slice_bounds-put_rows-end-2 c = sym c.loop-i.invariant.block_long

pub put_rows-end-requires : goal.put_rows-end-requires
put_rows-end-requires c = record { icon_len = c.loop-i.invariant.block_long; at_in_bounds = last-room c.loop-i.invariant c.loop-i-test.false }

pub slice_bounds-put_rows-end-3 : goal.slice_bounds-put_rows-end-3
slice_bounds-put_rows-end-3 c = sym c.loop-i.invariant.icon_long

pub put_rows-requires : goal.put_rows-requires
put_rows-requires c = let inv = c.loop-i.invariant in
    record { icon_len = inv.icon_long; at_in_bounds = omega (arith, c.put_rows-end.ensures.same, inv.blocks.same, inv.blocks.room) }

pub shape_of-out : goal.shape_of-out
shape_of-out c =
    c.put_rows.ensures.same ∙ c.put_rows-end.ensures.same ∙ c.loop-i.invariant.blocks.same

pub returns : goal.returns
returns c =
    rw (to_z-of_z c.ranges.left, to_z-of_z c.ranges.top) at
    (drawn-all c.loop-i.invariant c.loop-i-test.false refl c.put_rows-end.ensures c.put_rows.ensures)
