-- The entry of a, and b where a says that the step has two bytes.
use native.Mathlib.Omega.{arith}
use mir.Syntax.{w32}
use Rattle.laws.specs.Ints.{ret}
use Rattle.read_records.proofs.PecTables.{sum_fits, sum-read}
use Rattle.read_records.proofs.words.pec_step.Goals as goal

pub overflow_add-result : goal.overflow_add-result
overflow_add-result c = let a = c.args in let u = c.first_of in
    rw (ret w32 u.result u.type_inv, u.ensures) (sum_fits a.a (omega arith) a.b (omega arith))

pub returns : goal.returns
returns c = let a = c.args in let u = c.first_of in
    rw (ret w32 u.result u.type_inv, u.ensures) (sum-read a.a (omega arith) a.b (omega arith))
