-- The step by the tests that the code makes.
use native.Mathlib.Omega.{arith}
use mir.Syntax.{w32}
use Rattle.laws.specs.Ints.{ret}
use Rattle.read_vp3_stitches.proofs.Stepping.{finish-at, stitch-at, long-at, end-run-at, nothing-at}
use Rattle.read_vp3_stitches.proofs.steps.step_at.Goals as goal

pub returns-then-bytes-at-lt2 : goal.returns-then-bytes-at-lt2
returns-then-bytes-at-lt2 c = let a = c.args in finish-at a.bytes.now a.at (omega arith)

pub returns-then-bytes-at : goal.returns-then-bytes-at
returns-then-bytes-at c =
    let a = c.args in
    let x = c.s8 in
    let y = c.s8-then-bytes-at in
    rw (ret w32 x.result x.type_inv, x.ensures, ret w32 y.result y.type_inv, y.ensures)
    (stitch-at a.bytes.now a.at (omega arith) c.if-bytes-at.true)

pub returns-then-c-eq1 : goal.returns-then-c-eq1
returns-then-c-eq1 c =
    let a = c.args in
    rw c.long_at.ensures (long-at a.bytes.now a.at (omega arith) c.if-bytes-at.false c.if-c-eq1.true)

pub returns-then-c-eq3 : goal.returns-then-c-eq3
returns-then-c-eq3 c =
    let a = c.args in
    end-run-at a.bytes.now a.at (omega arith) c.if-bytes-at.false c.if-c-eq3.true

pub returns : goal.returns
returns c =
    let a = c.args in
    nothing-at a.bytes.now a.at (omega arith) c.if-bytes-at.false c.if-c-eq1.false c.if-c-eq3.false
