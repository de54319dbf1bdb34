-- By the test of the length.
use borrow.Author.Tests.{lt-ltb, le-ltb}
use mir.Syntax.{w32}
use Rattle.laws.specs.Ints.{ret}
use Rattle.read_vp3_stitches.proofs.steps.long_at.Goals as goal

pub returns-then-bytes-at-lt6 : goal.returns-then-bytes-at-lt6
returns-then-bytes-at-lt6 c = rw (lt-ltb _ _ c.if-bytes-at-lt6.true)

pub returns : goal.returns
returns c = let x = c.s16 in
    let y = c.s16-2 in
    rw (ret w32 x.result x.type_inv, ret w32 y.result y.type_inv, x.ensures, y.ensures, le-ltb _ _ c.if-bytes-at-lt6.false)
