-- The blocks of the design part, which a file without fault has.
use Rattle.read_vp3.proofs.Blockwise.{found}
use Rattle.read_vp3.proofs.fill.Goals as goal

pub unwrap-design-requires : goal.unwrap-design-requires
unwrap-design-requires c = found c.design_of.result c.design_of.ensures c.requires.file_value
