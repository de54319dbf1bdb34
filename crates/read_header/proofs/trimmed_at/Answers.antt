-- The part, its first blanks and its last ones. Assumes nothing.
use Rattle.read_header.proofs.Spans.{trimmed-part}
use Rattle.read_header.proofs.trimmed_at.Goals as goal

pub returns : goal.returns
returns c = let f = c.start_of-a in
    trimmed-part _ _ _ _ _ _ c.requires c.part-t.ensures f.ensures.0
    f.ensures.1 c.end_of-e.ensures.0 c.end_of-e.ensures.1
