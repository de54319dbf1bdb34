-- The place is not before the first and not far from it.
use Rattle.thumbnail_tables.proofs.Places.{index-fits, index-cast, index-wide, index_is}
use Rattle.thumbnail_tables.proofs.index_of.Goals as goal

pub overflow_sub-result : goal.overflow_sub-result
overflow_sub-result c = index-fits c.requires.0 c.requires.1.0 c.requires.1.1 c.ranges.from c.ranges.z

pub overflow_cast-result : goal.overflow_cast-result
overflow_cast-result c = index-cast c.requires.0 c.requires.1.0 c.requires.1.1 c.ranges.from c.ranges.z

pub overflow_cast-result-2 : goal.overflow_cast-result-2
overflow_cast-result-2 c = index-wide c.requires.0 c.requires.1.0 c.requires.1.1 c.ranges.from c.ranges.z

pub returns : goal.returns
returns c = index_is c.requires.0 c.requires.1.0 c.requires.1.1 c.ranges.from c.ranges.z
