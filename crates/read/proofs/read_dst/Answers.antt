-- The colours of the header, and the records behind it.
use native.Mathlib.Omega.{arith}
use Rattle.read_records.specs.declared.Row.TheVariants.{Dst}
use Rattle.read.proofs.Colours.{cells-inside, cells-long, stored_answer}
use Rattle.read.proofs.read_dst.Goals as goal

pub slice_bounds-colors-end : goal.slice_bounds-colors-end
slice_bounds-colors-end c = let p = c.dst_colors-n in cells-inside p.ensures p.auto.colors

pub slice_bounds-read_records-end : goal.slice_bounds-read_records-end
slice_bounds-read_records-end c = let p = c.dst_colors-n in cells-long p.ensures p.auto.colors

pub read_records-requires : goal.read_records-requires
read_records-requires c = omega arith

pub returns : goal.returns
returns c = let p = c.dst_colors-n in
    stored_answer p.ensures p.auto.colors Dst
    c.rest.ensures.result_value
    c.read_records.ensures
