-- A number in an i32. Assumes nothing.
use Prim.Native.Nat.{◌≤◌}
use native.Mathlib.Omega.{arith}
use lib.IntN.{ℤ, nat_abs}
use lib.Signed.{mag}
use Rattle.laws.specs.Ints.{mag_is, abs_is}

pub mag-abs : (z : ℤ) → mag z ≤ nat_abs z
mag-abs z = omega (arith, mag_is z, abs_is z)
