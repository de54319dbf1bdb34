-- Three parts.
use native.Mathlib.Omega.{arith}
use Rattle.dst.proofs.Lines.{put-line, right-ends}
use Rattle.dst.proofs.put_number.Goals as goal

pub put-requires : goal.put-requires
put-requires c = omega (arith, right-ends)

pub returns : goal.returns
returns c = search put-line
