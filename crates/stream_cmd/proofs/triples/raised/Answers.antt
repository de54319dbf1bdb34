-- A step is from -121 to 121, so that the sum is from 0 to 242.
use mathlib.Core.Path.{◌≡◌}
use lib.IntN.{pos, nat_abs, ◌+ℤ◌}
use mir.Syntax.{w32}
use mir.Val.{to_z, of_z}
use Rattle.laws.specs.Ints.{ints, seen, abs_is, one0}
use Rattle.stream_cmd.proofs.triples.raised.Goals as goal

pub overflow_add-result : goal.overflow_add-result
overflow_add-result c = omega (ints, seen c.ranges.z, abs_is c.args.z)

pub overflow_cast-result : goal.overflow_cast-result
overflow_cast-result c = let h = overflow_add-result c in omega (ints, seen c.ranges.z, abs_is c.args.z)

pub returns : goal.returns
returns c = let h = overflow_add-result c in
    let r = to_z w32 (of_z w32 (to_z w32 (of_z w32 c.args.z) +ℤ pos 121)) in
    let e : pos (nat_abs r) ≡ c.args.z +ℤ pos 121 = omega (ints, seen c.ranges.z, abs_is c.args.z, abs_is r, one0 r) in
    e
