-- A step that is small fits.
use lib.IntN.{◌-ℤ◌}
use Rattle.laws.specs.Ints.{ints, seen, abs_is, sub-law}
use Rattle.geom.proofs.step.Goals as goal

pub overflow_sub-result : goal.overflow_sub-result
overflow_sub-result c = let a = c.args in
    omega (ints, seen c.ranges.to, seen c.ranges.from, abs_is (a.to -ℤ a.from), sub-law a.to a.from)

pub returns : goal.returns
returns c = let h = overflow_sub-result c in omega (ints, seen c.ranges.to, seen c.ranges.from)
