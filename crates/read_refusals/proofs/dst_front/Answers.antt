-- The check of a DST file's length. Assumes nothing.
use native.Mathlib.Omega.{arith}
use Rattle.read_refusals.proofs.Checked.{dst-short, dst-whole}
use Rattle.read_refusals.proofs.dst_front.Goals as goal

pub returns-then-file-lt-DST_HEADER : goal.returns-then-file-lt-DST_HEADER
returns-then-file-lt-DST_HEADER c = dst-short c.args.file.now (omega arith)

pub returns : goal.returns
returns c = dst-whole c.args.file.now (omega arith)
