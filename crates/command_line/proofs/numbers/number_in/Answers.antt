-- `number_in` by its first byte. Assumes nothing.
use mathlib.Core.Path.{◌∙◌}
use native.Mathlib.Omega.{arith}
use Rattle.command_line.proofs.Digits.{number-none, number-below, number-from}
use Rattle.command_line.proofs.numbers.number_in.Goals as goal

pub returns-then-text-eq0 : goal.returns-then-text-eq0
returns-then-text-eq0 c = number-none _ c.if-text-eq0.true

pub returns-then-text-eq45 : goal.returns-then-text-eq45
returns-then-text-eq45 c =
    let s = c.args.text.now in
    c.below_zero.ensures ∙ number-below s (omega (arith, c.if-text-eq0.false)) c.if-text-eq45.true

pub returns : goal.returns
returns c =
    let s = c.args.text.now in
    c.from_zero.ensures ∙ number-from s (omega (arith, c.if-text-eq0.false)) c.if-text-eq45.false
