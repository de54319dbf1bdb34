-- The colours of the table, and the records from the offset on.
use mathlib.Core.Path.{sym, ap, ◌∙◌}
use native.Mathlib.Omega.{arith}
use mir.Facts.{to_z-of_z}
use lib.ListN.{length}
use Rattle.read.proofs.Stitches.{jef-shorter}
use Rattle.read_records.specs.declared.Row.TheVariants.{Jef}
use Rattle.read.proofs.Colours.{cells-inside, cells-long, stored_answer}
use Rattle.read.proofs.read_jef.Goals as goal

pub jef_stitches-requires : goal.jef_stitches-requires
jef_stitches-requires c = c.requires.file_value ∙ sym (to_z-of_z c.ranges.offset)

pub slice_bounds-colors-end : goal.slice_bounds-colors-end
slice_bounds-colors-end c = let p = c.jef_colors-n in cells-inside p.ensures p.auto.colors

pub slice_bounds-read_records-end : goal.slice_bounds-read_records-end
slice_bounds-read_records-end c = let p = c.jef_colors-n in cells-long p.ensures p.auto.colors

pub read_records-requires : goal.read_records-requires
read_records-requires c = let a = c.args in
    omega (arith, ap length c.jef_stitches.ensures, jef-shorter a.file.now)

pub returns : goal.returns
returns c = let p = c.jef_colors-n in
    stored_answer p.ensures p.auto.colors Jef
    c.jef_stitches.ensures
    c.read_records.ensures
