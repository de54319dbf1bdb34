-- By the row.
use Rattle.read_fill.proofs.with_rows.Goals as goal

pub returns-in-Dst : goal.returns-in-Dst
returns-in-Dst c = rw c.in-Dst.is
