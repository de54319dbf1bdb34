-- Turn by turn, by `Going` and `Cutting`.
use mathlib.Core.Path.{sym}
use native.Mathlib.Omega.{arith}
use Rattle.read_passes.proofs.Loops.{going_start, going_on, going-ended}
use Rattle.read_fill.proofs.Rows.{cutting-start, cutting-done}
use Rattle.read_fill.proofs.triples.fill_triples.Goals as goal

pub loop-at-init : goal.loop-at-init
loop-at-init c = (going_start c.new-b.ensures c.requires, cutting-start c.new-b.ensures)

pub slice_bounds-turn_triple-end : goal.slice_bounds-turn_triple-end
slice_bounds-turn_triple-end c = sym c.dst_steps-xs.ensures.size

pub slice_bounds-turn_triple-end-in-loop-at : goal.slice_bounds-turn_triple-end-in-loop-at
slice_bounds-turn_triple-end-in-loop-at c = sym c.dst_steps-ys.ensures.size

pub turn_triple-t-requires : goal.turn_triple-t-requires
turn_triple-t-requires c = let h = c.whole_records-end.ensures.by_index c.loop-at.at c.loop-at-test.true in
    record { dst_steps = (c.dst_steps-xs.ensures, c.dst_steps-ys.ensures); at_in_bounds = h; room = c.loop-at.invariant.0.ready; cutting = c.loop-at.invariant.1 }

pub loop-at-smaller : goal.loop-at-smaller
loop-at-smaller c =
    let h = c.whole_records-end.ensures.by_index c.loop-at.at c.loop-at-test.true in
    omega (arith, c.turn_triple-t.ensures.turns.later)

pub loop-at-preserved : goal.loop-at-preserved
loop-at-preserved c =
    (going_on c.loop-at.invariant.0 c.turn_triple-t.ensures.turns.went, c.turn_triple-t.ensures.cutting_2)

pub fill_rest-requires : goal.fill_rest-requires
fill_rest-requires c = c.loop-at.invariant.0.ready

pub returns : goal.returns
returns c = record { ends = going-ended c.loop-at.invariant.0 c.fill_rest.ensures; rows_of = cutting-done c.loop-at.invariant.1 (c.whole_records-end.ensures.by_index_2 c.loop-at.at c.loop-at-test.false) }
