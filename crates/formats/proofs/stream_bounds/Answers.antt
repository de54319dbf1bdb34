-- `stream_bounds` meets its contract. The invariant: the bounds hold the places before i. Assumes nothing.
use borrow.Author.Count.{below_none, below_more}
use lib.IntN.{pos}
use lib.ListN.{get_or}
use mir.Syntax.{w32}
use Rattle.rules.specs.Lists.{commands}
use Rattle.laws.specs.Ints.{ret}
use native.Mathlib.Omega.{arith}
use Rattle.formats.proofs.Framing.{framed-start, framed-more, framed-done, no-bounds}
use Rattle.formats.proofs.stream_bounds.Goals as goal

pub returns-then-n-eq0 : goal.returns-then-n-eq0
returns-then-n-eq0 c = let a = c.args in
    let cs = commands a.xs.now a.ys.now a.kinds.now in
    let n = c.list_len-n.ensures in
    no-bounds cs (omega (arith, n)) c.add.ensures c.new.ensures c.empty.ensures

pub loop-i-init : goal.loop-i-init
loop-i-init c = (rw c.empty-b.ensures (framed-start c.list_len-n.ensures), (below_none _, below_none _))

pub offset_bounds-xs-i : goal.offset_bounds-xs-i
offset_bounds-xs-i c = omega (arith, c.well_formed)

pub bounds-xs-i : goal.bounds-xs-i
bounds-xs-i c = omega arith

pub offset_bounds-ys-i : goal.offset_bounds-ys-i
offset_bounds-ys-i c = omega (arith, c.well_formed)

pub bounds-ys-i : goal.bounds-ys-i
bounds-ys-i c = omega arith

pub loop-i-preserved : goal.loop-i-preserved
loop-i-preserved c =
    let l = c.loop-i in
    let a = c.args in
    let x = c.new-arg-1.given in
    let y = c.new-arg-in-loop-i-1.given in (
      rw (c.add-b.ensures, c.new-in-loop-i.ensures, ret w32 (get_or a.xs.now l.i (pos 0)) x, ret w32 (get_or a.ys.now l.i (pos 0)) y)
          (framed-more l.invariant.0 c.loop-i-test.true),
      (below_more _ l.i l.invariant.1.0 x, below_more _ l.i l.invariant.1.1 y),
    )

pub returns : goal.returns
returns c = let inv = c.loop-i.invariant in
    framed-done inv.0 c.loop-i-test.false (omega arith) (inv.1.0 0 (omega arith)) (inv.1.1 0 (omega arith))
