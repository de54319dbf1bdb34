-- The length of the table by that of the bytes.
use native.Mathlib.Omega.{arith}
use Rattle.jef.proofs.Words.{length-table}
use Rattle.jef.proofs.table_len.Goals as goal

pub returns-then-threads-lt3 : goal.returns-then-threads-lt3
returns-then-threads-lt3 c = omega (arith, length-table c.args.threads.now)

pub returns : goal.returns
returns c = omega (arith, length-table c.args.threads.now)
