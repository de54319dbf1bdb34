-- By whether the thread was seen.
use Rattle.pec_palette.proofs.new_entry.Goals as goal

pub returns-then-is_seen : goal.returns-then-is_seen
returns-then-is_seen c = rw (← c.is_seen.ensures, c.if-is_seen.true)

pub returns : goal.returns
returns c = rw (← c.is_seen.ensures, c.if-is_seen.false) c.nearest_index.ensures
