-- One store.
use Rattle.std.proofs.Common.{refl}
use Rattle.thumbnail_tables.specs.Cells.{bit_set}
use Rattle.thumbnail_tables.proofs.set_bit.Goals as goal

pub returns : goal.returns
unfolding bit_set
returns c = refl
