-- The last label of the whole text is told from the one found so far and the lines that are left. Assumes nothing.
use Prim.Native.Nat.{◌-◌}
use mathlib.Core.Path.{sym, ap, ◌∙◌}
use mathlib.Core.List.{[]}
use native.Mathlib.Omega.{arith}
use lib.ListN.{take, drop}
use Rattle.rules.specs.Dst.{last_label}
use Rattle.laws.specs.Prefixes.{begins-starts}
use Rattle.read_header.proofs.Lines.{lines-all, lines_none, label-here, label-before}
use Rattle.read_header.proofs.last_label_at.Goals as goal
use Rattle.read_header.proofs.last_label_at.Goals.{then-starts_with, else-starts_with}

pub loop-at-init : goal.loop-at-init
loop-at-init c = (omega arith, (omega arith, (omega arith, ap (last_label []) (sym (lines-all c.args.s.now)))))

pub line_end-e-requires : goal.line_end-e-requires
line_end-e-requires c = omega arith

pub slice_bounds-starts_with-count : goal.slice_bounds-starts_with-count
slice_bounds-starts_with-count c = omega arith

pub overflow_add-from : goal.overflow_add-from
overflow_add-from c = omega arith

pub overflow_add-at : goal.overflow_add-at
overflow_add-at c = omega arith

pub loop-at-smaller : goal.loop-at-smaller
loop-at-smaller c = omega arith

pub loop-at-preserved : goal.loop-at-preserved
loop-at-preserved c = let a = c.args in
    let h = c.loop-at in
    let e = c.line_end-e.result in
    let w = c.line_end-e.ensures in
    let found = take (h.to - h.from) (drop h.from a.s.now) in
    elim c.if-starts_with.branch [
      | then-starts_with w' ↦ (let l = label-here a.s.now found h.at e w h.invariant.1.1.1 (sym (c.starts_with.ensures.value ∙ begins-starts _ _) ∙ w'.if-starts_with.true) in
          rw (w'.from-is, w'.to-is) (omega (arith, l.0), (w.inside, (omega arith, l.1))))
      | else-starts_with w' ↦ (let l = label-before a.s.now found h.at e w h.invariant.1.1.1 (sym (c.starts_with.ensures.value ∙ begins-starts _ _) ∙ w'.if-starts_with.false) in
          rw (w'.from-is, w'.to-is) (h.invariant.0, (h.invariant.1.0, (omega arith, l))))
    ]

pub overflow_sub-result : goal.overflow_sub-result
overflow_sub-result c = omega arith

pub returns : goal.returns
unfolding last_label
returns c = let h = c.loop-at in
    let s = c.args.s.now in
    record {
      inside = omega arith;
      text = sym (h.invariant.1.1.1 ∙ ap (last_label (take (h.to - h.from) (drop h.from s))) (lines_none s h.at (omega arith)));
    }
