-- The number at 24, from 0 to 256. Assumes nothing.
use mathlib.Core.Path.{sym, ◌∙◌}
use native.Mathlib.Omega.{arith}
use borrow.Author.Tests.{lt-leb}
use Rattle.rules.specs.Jef.{jef_count}
use Rattle.laws.specs.Tests.{pick_true, pick-false}
use Rattle.read_header.proofs.Colors.{word-missing, jef-counted}
use Rattle.read_header.proofs.jef_count.Goals as goal

pub returns-in_default : goal.returns-in_default
unfolding jef_count
returns-in_default c = rw (lt-leb 28 _ (word-missing 24 c.args.file.now c.i32le-w.ensures
    c.in_default.is))

pub returns-then-z-lt0 : goal.returns-then-z-lt0
unfolding jef_count
returns-then-z-lt0 c = sym (jef-counted _ c.i32le-w.ensures c.in-Some.is (omega arith) ∙ pick_true _ _ c.if-z-lt0.true)

pub returns : goal.returns
unfolding jef_count
returns c = omega (arith, jef-counted _ c.i32le-w.ensures c.in-Some.is (omega arith) ∙ pick-false _ _ c.if-z-lt0.false)
