-- Digit by digit.
use mathlib.Core.Path.{◌∙◌}
use native.Mathlib.Omega.{arith}
use Rattle.read_records.proofs.Digits.{held-digit, held-times, two, three, four, five, x-cases}
use Rattle.read_records.proofs.triples.x_step.Goals as goal

pub overflow_mul-result : goal.overflow_mul-result
overflow_mul-result c = (held-times 81 (omega arith) (held-digit _ _ c.digit.ensures)).fits

pub overflow_mul-result-2 : goal.overflow_mul-result-2
overflow_mul-result-2 c = (held-times 27 (omega arith) (held-digit _ _ c.digit-2.ensures)).fits

pub overflow_add-result : goal.overflow_add-result
overflow_add-result c = (two (held-digit _ _ c.digit.ensures) (held-digit _ _ c.digit-2.ensures)).fits

pub overflow_mul-result-3 : goal.overflow_mul-result-3
overflow_mul-result-3 c = (held-times 9 (omega arith) (held-digit _ _ c.digit-3.ensures)).fits

pub overflow_add-result-2 : goal.overflow_add-result-2
overflow_add-result-2 c = (three (held-digit _ _ c.digit.ensures) (held-digit _ _ c.digit-2.ensures) (held-digit _ _ c.digit-3.ensures)).fits

pub overflow_mul-result-4 : goal.overflow_mul-result-4
overflow_mul-result-4 c = (held-times 3 (omega arith) (held-digit _ _ c.digit-4.ensures)).fits

pub overflow_add-result-3 : goal.overflow_add-result-3
overflow_add-result-3 c =
    (four (held-digit _ _ c.digit.ensures) (held-digit _ _ c.digit-2.ensures) (held-digit _ _ c.digit-3.ensures) (held-digit _ _ c.digit-4.ensures)).fits

pub overflow_add-result-4 : goal.overflow_add-result-4
overflow_add-result-4 c =
    (five (held-digit _ _ c.digit.ensures) (held-digit _ _ c.digit-2.ensures) (held-digit _ _ c.digit-3.ensures) (held-digit _ _ c.digit-4.ensures)
    (held-digit _ _ c.digit-5.ensures)).fits

pub returns : goal.returns
returns c =
    (five (held-digit _ _ c.digit.ensures) (held-digit _ _ c.digit-2.ensures) (held-digit _ _ c.digit-3.ensures) (held-digit _ _ c.digit-4.ensures)
    (held-digit _ _ c.digit-5.ensures)).is ∙ x-cases _ _ _
