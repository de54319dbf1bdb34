-- From one place to the other. Assumes nothing.
use native.Mathlib.Omega.{arith}
use Rattle.read_header.proofs.Spans.{cut}
use Rattle.read_header.proofs.part.Goals as goal

pub returns : goal.returns
returns c = let a = c.args in
    cut a.s.now a.from a.len c.ahead-a.result c.ahead-e.result (omega arith) c.ahead-e.ensures
