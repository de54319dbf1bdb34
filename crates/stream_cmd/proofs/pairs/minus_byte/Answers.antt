-- The negative is as small.
use mathlib.Core.Path.{◌≡◌, ap, ◌∙◌}
use lib.IntN.{pos, neg_ℤ, ◌-ℤ◌}
use mir.Syntax.{w32}
use mir.Val.{to_z, of_z}
use Rattle.rules.specs.Vocabulary.{bits_of}
use Rattle.laws.specs.Ints.{ints, seen, abs_is, abs-le}
use Rattle.stream_cmd.proofs.pairs.minus_byte.Goals as goal

pub overflow_sub-z : goal.overflow_sub-z
overflow_sub-z c = omega (ints, seen c.ranges.z, abs_is c.args.z)

pub low_byte-requires : goal.low_byte-requires
low_byte-requires c = let h = overflow_sub-z c in
    let r = to_z w32 (of_z w32 (pos 0 -ℤ to_z w32 (of_z w32 c.args.z))) in
    abs-le r 127 (omega (ints, seen c.ranges.z, abs_is c.args.z)) (omega (ints, seen c.ranges.z, abs_is c.args.z))

pub returns : goal.returns
returns c = let h = overflow_sub-z c.before in
    let e : to_z w32 (of_z w32 (pos 0 -ℤ to_z w32 (of_z w32 c.args.z))) ≡ neg_ℤ c.args.z = omega (ints, seen c.ranges.z) in
    c.low_byte.ensures ∙ ap (bits_of 7) e
