-- The four bytes are there, or the file ends before the last. Assumes nothing.
use Rattle.std.specs.Prelude.{Some}
use borrow.Author.Tests.{le-leb, lt-leb}
use mir.Syntax.{w32}
use Rattle.laws.specs.Ints.{ret}
use Prim.Native.Nat.{◌+◌}
use mathlib.Core.Path.{ap, ◌∙◌}
use Rattle.read_header.proofs.Words.{word}
use native.Mathlib.Omega.{arith}
use lib.ListN.{length}
use Rattle.read_header.proofs.i32le.Goals as goal

pub returns-then-file-lt4 : goal.returns-then-file-lt4
returns-then-file-lt4 c = let a = c.args in rw (lt-leb (a.at + 4) (length a.file.now) (omega arith))

pub returns-then-file-at : goal.returns-then-file-at
returns-then-file-at c = let a = c.args in rw (lt-leb (a.at + 4) (length a.file.now) (omega arith))

pub returns : goal.returns
returns c = let a = c.args in let s = a.file.now in
    rw (le-leb (a.at + 4) (length s) (omega arith))
    (ap Some (ret w32 c.from_le_bytes.result c.from_le_bytes.type_inv ∙ c.from_le_bytes.ensures ∙ word s a.at (omega arith)))
