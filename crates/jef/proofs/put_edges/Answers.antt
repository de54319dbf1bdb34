-- By whether the design fits the hoop.
use native.Mathlib.Omega.{arith}
use Rattle.laws.specs.Buffers.{put_as}
use Rattle.jef.proofs.Hoops.{edges-inside, too_wide, too-high}
use Rattle.jef.proofs.put_edges.Goals as goal

pub returns-then-ex-x : goal.returns-then-ex-x
returns-then-ex-x c = search (put_as, too_wide)

pub returns-then-ey-y : goal.returns-then-ey-y
returns-then-ey-y c = search (put_as, too-high)

pub returns : goal.returns
returns c = search (put_as, edges-inside, arith)
