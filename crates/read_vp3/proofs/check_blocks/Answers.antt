-- One block after the other, by `Going`.
use Rattle.std.proofs.Common.{arith}
use Rattle.laws.specs.Exits.{exit}
use Rattle.read_vp3.proofs.Walked.{going_on, going-not, going_done}
use Rattle.read_vp3.proofs.check_blocks.Goals as goal

pub returns-in_err-w : goal.returns-in_err-w
returns-in_err-w c =
    rw (exit c.from_residual.ensures.1) (going-not c.loop-n.invariant c.loop-n-test.true c.in_err-w.ensures)

pub loop-n-preserved : goal.loop-n-preserved
loop-n-preserved c = going_on c.loop-n.invariant c.loop-n-test.true c.in_ok-w.ensures

pub returns : goal.returns
returns c = let e = c.counts.ensures in going_done c.loop-n.invariant (omega arith) e.0 e.1 e.2 e.3
