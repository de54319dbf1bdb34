-- `below_zero` by what the digits make. Assumes nothing.
use Prim.Native.Nat.{◌≤◌}
use lib.IntN.{pos, neg_ℤ, +ℤ_idl}
use mir.Facts.{to_z_pos, to_z-of_z}
use mir.Syntax.{w64}
use Rattle.laws.specs.Ints.{ints}
use Rattle.command_line.specs.Numbers.{below_zero}
use Rattle.command_line.proofs.Digits.{made-small, made-number, made_none}
use Rattle.command_line.proofs.numbers.below_zero.Goals as goal

pub overflow_cast-result : goal.overflow_cast-result
overflow_cast-result c =
    let small : c.in_ok-n.n ≤ 2147483648 = made-small _ _ c.digits_up_to.ensures c.in_ok-n.was in
    omega ints

pub overflow_sub-result : goal.overflow_sub-result
overflow_sub-result c =
    let small : c.in_ok-n.n ≤ 2147483648 = made-small _ _ c.digits_up_to.ensures c.in_ok-n.was in
    rw (to_z_pos w64 (overflow_cast-result c).sfits) (omega ints)

pub overflow_cast-result-2 : goal.overflow_cast-result-2
overflow_cast-result-2 c =
    let small : c.in_ok-n.n ≤ 2147483648 = made-small _ _ c.digits_up_to.ensures c.in_ok-n.was in
    rw (to_z-of_z (overflow_sub-result c), to_z_pos w64 (overflow_cast-result c).sfits) (omega ints)

pub returns : goal.returns
unfolding below_zero
returns c = rw (to_z-of_z (overflow_cast-result-2 c), to_z-of_z (overflow_sub-result c), to_z_pos w64 (overflow_cast-result c).sfits, +ℤ_idl)
    (made-number _ _ c.digits_up_to.ensures (λ n. neg_ℤ (pos n)) c.in_ok-n.was)

pub returns-in_err-n : goal.returns-in_err-n
unfolding below_zero
returns-in_err-n c =
    rw c.from_residual.ensures (made_none _ _ c.digits_up_to.ensures (λ n. neg_ℤ (pos n)) c.in_err-n.was)
