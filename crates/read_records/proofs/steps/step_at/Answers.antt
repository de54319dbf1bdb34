-- The step by the tests that the code makes.
use native.Mathlib.Omega.{arith}
use mathlib.Core.Path.{sym}
use mir.Syntax.{w32}
use Rattle.laws.specs.Ints.{ret}
use Rattle.read_records.proofs.Pecs.{axis-end, axis-short, axis-cut, axis-long}
use Rattle.read_records.proofs.steps.step_at.Goals as goal

pub returns-then-file-at : goal.returns-then-file-at
returns-then-file-at c = let a = c.args in sym (axis-end a.file.now a.at (omega arith))

pub returns-then-a-lt128 : goal.returns-then-a-lt128
returns-then-a-lt128 c = let a = c.args in
    rw (ret w32 c.signed7.result c.signed7.type_inv, c.signed7.ensures) (sym (axis-short a.file.now a.at (omega arith) c.if-a-lt128.true))

pub returns-then-file-at-lt2 : goal.returns-then-file-at-lt2
returns-then-file-at-lt2 c = let a = c.args in
    sym (axis-cut a.file.now a.at (omega arith) c.if-a-lt128.false (omega arith))

pub returns : goal.returns
returns c = let a = c.args in
    rw (ret w32 c.signed12.result c.signed12.type_inv, c.signed12.ensures)
    (sym (axis-long a.file.now a.at (omega arith) c.if-a-lt128.false))
