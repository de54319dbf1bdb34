-- The cast of the number gives its bits.
use mathlib.Core.Path.{refl}
use mir.Syntax.{w8}
use native.Mathlib.Omega.{arith}
use Rattle.laws.specs.Ints.{ints, abs_is}
use Rattle.emit.proofs.Bits.{cast-is}
use Rattle.emit.proofs.low_byte.Goals as goal

pub returns : goal.returns
returns c = cast-is w8 7 refl (omega (arith, c.requires)) (omega (ints, c.requires, abs_is c.args.z)) c.ranges.z c.cast_unsigned.ensures
