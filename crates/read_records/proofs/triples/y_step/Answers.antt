-- Digit by digit, and nought less the sum.
use mathlib.Core.Path.{◌∙◌}
use native.Mathlib.Omega.{arith}
use Rattle.read_records.proofs.Digits.{held-digit, held-times, held-neg, two, three, four, five, y-cases}
use Rattle.read_records.proofs.triples.y_step.Goals as goal

pub overflow_mul-up : goal.overflow_mul-up
overflow_mul-up c = (held-times 81 (omega arith) (held-digit _ _ c.digit.ensures)).fits

pub overflow_mul-up-2 : goal.overflow_mul-up-2
overflow_mul-up-2 c = (held-times 27 (omega arith) (held-digit _ _ c.digit-2.ensures)).fits

pub overflow_add-up : goal.overflow_add-up
overflow_add-up c = (two (held-digit _ _ c.digit.ensures) (held-digit _ _ c.digit-2.ensures)).fits

pub overflow_mul-up-3 : goal.overflow_mul-up-3
overflow_mul-up-3 c = (held-times 9 (omega arith) (held-digit _ _ c.digit-3.ensures)).fits

pub overflow_add-up-2 : goal.overflow_add-up-2
overflow_add-up-2 c = (three (held-digit _ _ c.digit.ensures) (held-digit _ _ c.digit-2.ensures) (held-digit _ _ c.digit-3.ensures)).fits

pub overflow_mul-up-4 : goal.overflow_mul-up-4
overflow_mul-up-4 c = (held-times 3 (omega arith) (held-digit _ _ c.digit-4.ensures)).fits

pub overflow_add-up-3 : goal.overflow_add-up-3
overflow_add-up-3 c =
    (four (held-digit _ _ c.digit.ensures) (held-digit _ _ c.digit-2.ensures) (held-digit _ _ c.digit-3.ensures) (held-digit _ _ c.digit-4.ensures)).fits

pub overflow_add-up-4 : goal.overflow_add-up-4
overflow_add-up-4 c =
    (five (held-digit _ _ c.digit.ensures) (held-digit _ _ c.digit-2.ensures) (held-digit _ _ c.digit-3.ensures)
    (held-digit _ _ c.digit-4.ensures) (held-digit _ _ c.digit-5.ensures)).fits

pub overflow_sub-result : goal.overflow_sub-result
overflow_sub-result c =
    (held-neg (omega arith) (five (held-digit _ _ c.digit.ensures) (held-digit _ _ c.digit-2.ensures)
    (held-digit _ _ c.digit-3.ensures) (held-digit _ _ c.digit-4.ensures) (held-digit _ _ c.digit-5.ensures))).fits

pub returns : goal.returns
returns c =
    (held-neg (omega arith) (five (held-digit _ _ c.digit.ensures) (held-digit _ _ c.digit-2.ensures)
    (held-digit _ _ c.digit-3.ensures) (held-digit _ _ c.digit-4.ensures) (held-digit _ _ c.digit-5.ensures))).is ∙ y-cases _ _ _
