-- By the test.
use Rattle.read_passes.proofs.Found.{has, lacks}
use Rattle.read_count.proofs.triples.sews.Goals as goal

pub returns-then-c-eq131 : goal.returns-then-c-eq131
returns-then-c-eq131 c = rw (has _ _ c.if-c-eq131.true)

pub returns : goal.returns
returns c = rw (lacks _ _ c.if-c-eq131.false)
