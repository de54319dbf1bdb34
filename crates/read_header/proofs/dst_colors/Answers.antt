-- The colours of the first 512 bytes. Assumes nothing.
use Prim.Native.Nat.{ℕ}
use mathlib.Core.List.{List}
use mathlib.Core.Path.{ap, subst}
use native.Mathlib.Omega.{arith}
use lib.ListN.{length, length-take}
use Rattle.rules.specs.Text.{lines_of}
use Rattle.rules.specs.Dst.{line_colors}
use Rattle.rules.specs.Layout.{shade_at}
use Rattle.read_header.specs.Colors.{Cells}
use Rattle.read_header.proofs.dst_colors.Goals as goal

pub line_colors-requires : goal.line_colors-requires
line_colors-requires c = let a = c.args in
    (omega (arith, length-take 512 a.file.now, ap length c.part.ensures), c.requires)

pub returns : goal.returns
returns c = let l = c.line_colors in
    subst (λ (t : List ℕ). Cells (shade_at (line_colors (lines_of t))) l.new.colors l.result) c.part.ensures l.ensures
