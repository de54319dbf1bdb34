-- A byte of the file, and 0 past its end. Assumes nothing.
use mathlib.Core.Path.{sym}
use native.Mathlib.Omega.{arith}
use lib.ListN.{get_or-eq_default}
use Rattle.read_header.proofs.byte_at.Goals as goal

pub returns-then-file-start : goal.returns-then-file-start
returns-then-file-start c = let a = c.args in sym (get_or-eq_default a.file.now 0 (omega arith))

pub returns-then-file-start-2 : goal.returns-then-file-start-2
returns-then-file-start-2 c = let a = c.args in sym (get_or-eq_default a.file.now 0 (omega arith))
