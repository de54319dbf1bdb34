-- Two numbers of 32 bits are equal where their bits are.
use Rattle.laws.specs.Ints.{eq_test}
use Rattle.write_refusals.proofs.is_same.Goals as goal

pub returns : goal.returns
returns c = eq_test c.ranges.a c.ranges.b
