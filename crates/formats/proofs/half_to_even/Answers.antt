-- `half_to_even` meets its contract. Assumes nothing.
use mathlib.Core.Path.{refl}
use native.Mathlib.Omega.{arith}
use Rattle.rules.specs.Choices.{half_to_even}
use Rattle.formats.proofs.Distances.{bit, half-most}
use Rattle.formats.proofs.half_to_even.Goals as goal

pub overflow_mul-result : goal.overflow_mul-result
unfolding half_to_even
overflow_mul-result c = record { fits = omega (arith, bit c.args.n) }

pub overflow_add-result : goal.overflow_add-result
unfolding half_to_even
overflow_add-result c = record { fits = omega (arith, bit c.args.n, c.requires) }

pub returns : goal.returns
unfolding half_to_even
returns c = (refl, half-most c.args.n c.requires)
