-- The remainder of the number raised by 4096.
use native.Mathlib.Omega.{arith}
use Rattle.laws.specs.Twos.{over-fits, over-cast, over-low}
use Rattle.pec_cmd.proofs.low12.Goals as goal

pub overflow_add-result : goal.overflow_add-result
overflow_add-result c = over-fits 11 (omega arith) c.ranges.z (omega (arith, c.requires))

pub overflow_cast-result : goal.overflow_cast-result
overflow_cast-result c = over-cast 11 (omega arith) c.ranges.z (omega (arith, c.requires))

pub returns : goal.returns
returns c = (over-low 11 (omega arith) c.ranges.z (omega (arith, c.requires)), omega arith)
