-- One row after the other.
use Rattle.std.proofs.Common.{◌≡◌, ◌+◌, ◌*◌, arith}
use Rattle.read_job_tally.proofs.Gathering.{gathering-more, gathering-done}
use Rattle.read_job_tally.proofs.with_rows.Goals as goal

pub loop-i-preserved : goal.loop-i-preserved
loop-i-preserved c =
    let e : 5 * (c.loop-i.i + 1) ≡ 5 * c.loop-i.i + 5 = omega arith in
    rw e (gathering-more c.loop-i.invariant (omega arith) c.with_row-now.ensures)

pub returns : goal.returns
returns c = gathering-done c.loop-i.invariant (omega arith)
