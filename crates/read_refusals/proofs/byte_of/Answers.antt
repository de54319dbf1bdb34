-- A byte of the file, or none past its end. Assumes nothing.
use borrow.Author.Tests.{lt-ltb, le-ltb}
use Prim.Native.Nat.{◌+◌}
use native.Mathlib.Omega.{arith}
use lib.ListN.{length}
use Rattle.read_refusals.proofs.byte_of.Goals as goal

pub returns-then-file-start : goal.returns-then-file-start
returns-then-file-start c = let a = c.args in rw (le-ltb (a.start + a.k) (length a.file.now) (omega arith))

pub returns-then-file-start-2 : goal.returns-then-file-start-2
returns-then-file-start-2 c = let a = c.args in rw (le-ltb (a.start + a.k) (length a.file.now) (omega arith))

pub returns : goal.returns
returns c = let a = c.args in
    rw (lt-ltb (a.start + a.k) (length a.file.now) (omega arith))
