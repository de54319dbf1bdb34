-- The cast of a hundred times the number gives its bits.
use mathlib.Core.Path.{refl, ◌∙◌}
use native.Mathlib.Omega.{arith}
use lib.IntN.{pos, ◌*ℤ◌}
use mir.Facts.{to_z-of_z}
use mir.Syntax.{w32}
use mir.Val.{SFits}
use Rattle.laws.specs.Ints.{ints, abs_is, abs-le, mul-law}
use Rattle.emit.proofs.Bits.{bits-are}
use Rattle.vp3_cmd.proofs.hundred_bits.Goals as goal

pub returns : goal.returns
returns c =
    let z = c.args.z in
    let f : SFits w32 (z *ℤ pos 100) = omega (ints, abs_is z, c.requires) in
    let small = abs-le (z *ℤ pos 100) 6553500 (omega (arith, mul-law z 100, abs_is z, c.requires)) (omega (arith, mul-law z 100, abs_is z, c.requires)) in
    c.cast_unsigned.ensures ∙ rw (to_z-of_z c.ranges.z, to_z-of_z f) (bits-are w32 31 (z *ℤ pos 100) refl (omega (arith, small)))
