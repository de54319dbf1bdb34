-- The sum of two small numbers.
use Rattle.thumbnail_tables.proofs.Places.{place-fits, place_is}
use Rattle.thumbnail_tables.proofs.place.Goals as goal

pub overflow_add-result : goal.overflow_add-result
overflow_add-result c = place-fits c.requires.0 c.requires.1 c.ranges.from

pub returns : goal.returns
returns c = place_is c.requires.0 c.requires.1 c.ranges.from
