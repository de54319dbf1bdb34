-- The colours of the part, and the records behind its header.
use native.Mathlib.Omega.{arith}
use Rattle.read_records.specs.declared.Row.TheVariants.{Pec}
use Rattle.read.proofs.Colours.{cells-inside, cells-long, stored_answer}
use borrow.Author.Rules.{rules}
use Rattle.read.proofs.read_pec.Goals as goal

pub pec_colors-n-requires : goal.pec_colors-n-requires
pec_colors-n-requires c = record { in_bounds = search rules; count_value = c.requires.count_value }

pub slice_bounds-colors-end : goal.slice_bounds-colors-end
slice_bounds-colors-end c = let p = c.pec_colors-n in cells-inside p.ensures p.auto.colors

pub slice_bounds-read_records-end : goal.slice_bounds-read_records-end
slice_bounds-read_records-end c = let p = c.pec_colors-n in cells-long p.ensures p.auto.colors

pub read_records-requires : goal.read_records-requires
read_records-requires c = omega arith

pub returns : goal.returns
returns c = let p = c.pec_colors-n in
    stored_answer p.ensures p.auto.colors Pec
    c.rest.ensures.result_value
    c.read_records.ensures
