-- `from_zero` by what the digits make. Assumes nothing.
use lib.IntN.{pos}
use mir.Facts.{to_z_pos}
use mir.Syntax.{w32}
use Rattle.laws.specs.Ints.{ints}
use Rattle.command_line.specs.Numbers.{from_zero}
use Rattle.command_line.proofs.Digits.{made-small, made-number, made_none}
use Rattle.command_line.proofs.numbers.from_zero.Goals as goal

pub overflow_cast-result : goal.overflow_cast-result
overflow_cast-result c = let l = made-small _ _ c.digits_up_to.ensures c.in_ok-n.was in omega ints

pub returns : goal.returns
unfolding from_zero
returns c = rw (to_z_pos w32 (overflow_cast-result c).sfits) (made-number _ _ c.digits_up_to.ensures pos c.in_ok-n.was)

pub returns-in_err-n : goal.returns-in_err-n
unfolding from_zero
returns-in_err-n c =
    rw c.from_residual.ensures (made_none _ _ c.digits_up_to.ensures pos c.in_err-n.was)
