-- The two tests are those of a digit that has none below it.
use native.Mathlib.Omega.{arith}
use Rattle.rules.specs.Dst.{pair}
use Rattle.laws.specs.Ints.{ints, seen}
use Rattle.stream_cmd.proofs.Digits.{plus-if, minus-if, nought-if}
use Rattle.stream_cmd.proofs.triples.bits.Goals as goal

pub returns-then-d-gt0 : goal.returns-then-d-gt0
unfolding pair
returns-then-d-gt0 c = (rw (plus-if 0 c.args.d (omega (ints, seen c.ranges.d))), omega arith)

pub returns-then-d-lt0 : goal.returns-then-d-lt0
unfolding pair
returns-then-d-lt0 c = let k = seen c.ranges.d in (rw (minus-if 0 c.args.d (omega ints) (omega ints)), omega arith)

pub returns : goal.returns
unfolding pair
returns c = let k = seen c.ranges.d in (rw (nought-if 0 c.args.d (omega ints) (omega ints)), omega arith)
