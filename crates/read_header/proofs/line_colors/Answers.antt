-- The colours of the whole text are those in the cells and those of the lines that are left. Assumes nothing.
use Rattle.std.specs.Prelude.{Option}
use Prim.Native.Nat.{◌+◌, ◌-◌}
use mathlib.Core.Path.{refl, sym, ap, ◌∙◌}
use native.Mathlib.Omega.{arith}
use lib.ListN.{take, drop, length-take}
use Rattle.rules.specs.Text.{lines_of}
use Rattle.rules.specs.Dst.{line_colors, add_color}
use Rattle.read_header.specs.Lines.{lines_from}
use Rattle.read_header.proofs.Colors.{listed_start, listed_more, listed-done, color-long}
use Rattle.read_header.proofs.Lines.{lines-all, lines_none}
use Rattle.read_header.proofs.line_colors.Goals as goal
use Rattle.rules.specs.declared.Color.{Color}

pub loop-at-init : goal.loop-at-init
loop-at-init c = let s = c.args.s.now in
    let cells = c.args.colors.now in
    (omega arith, (refl, rw (lines-all s) (listed_start (line_colors (lines_of s)) cells (omega (arith, c.requires.1)))))

pub line_end-e-requires : goal.line_end-e-requires
line_end-e-requires c = omega arith

pub slice_bounds-line_color-count : goal.slice_bounds-line_color-count
slice_bounds-line_color-count c = omega arith

pub overflow_add-at : goal.overflow_add-at
overflow_add-at c = omega arith

pub loop-at-smaller : goal.loop-at-smaller
loop-at-smaller c = omega arith

pub loop-at-preserved : goal.loop-at-preserved
unfolding line_colors
loop-at-preserved c = let put-color = c.put_color-n in let line-color = c.line_color-c in
    let line-end = c.line_end-e in
    let h = c.loop-at in
    let s = c.args.s.now in
    let e = line-end.result in
    let l = take (e - h.at) (drop h.at s) in
    let q = line-color.ensures in (
      omega arith,
      (
        omega (arith, put-color.auto.colors, h.invariant.1.0),
        listed_more (line_colors (lines_of s)) h.colors h.n h.at e (omega (arith, h.invariant.1.1.bytes)) line-color.result put-color.ensures
            (ap line_colors line-end.ensures.lines ∙ ap (λ (c : Option Color). add_color c (line_colors (lines_from (e + 1) s))) (sym q))
            line-end.ensures.starts
            (λ t p. omega (arith, color-long l t (sym q ∙ p), length-take (e - h.at) (drop h.at s)))
            h.invariant.1.1,
      ),
    )

pub shape_of-colors : goal.shape_of-colors
shape_of-colors c = c.loop-at.invariant.1.0

pub returns : goal.returns
unfolding line_colors
returns c = let s = c.args.s.now in
    listed-done (line_colors (lines_of s)) (ap line_colors (lines_none s c.loop-at.at (omega arith))) (omega arith)
    c.loop-at.invariant.1.1
