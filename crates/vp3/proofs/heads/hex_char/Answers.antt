-- A digit below 10, or a letter.
use mathlib.Core.Path.{sym}
use Rattle.rules.specs.Vp3.{hex_char}
use Rattle.laws.specs.Tests.{pick-lt, pick-ge}
use Rattle.vp3.proofs.heads.hex_char.Goals as goal

pub returns-then-d-lt10 : goal.returns-then-d-lt10
unfolding hex_char
returns-then-d-lt10 c = sym (pick-lt c.args.d 10 _ _ c.if-d-lt10.true)

pub returns : goal.returns
unfolding hex_char
returns c = sym (pick-ge c.args.d 10 _ _ c.if-d-lt10.false)
