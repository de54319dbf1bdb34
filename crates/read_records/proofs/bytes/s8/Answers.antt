-- A number in two's complement: the sum and the remainder shift it.
use native.Mathlib.Omega.{arith}
use Rattle.read_records.proofs.Signs.{shift_is}
use Rattle.read_records.proofs.bytes.s8.Goals as goal

pub returns : goal.returns
returns c = shift_is 7 c.args.b (omega arith) (omega arith) (omega arith)
