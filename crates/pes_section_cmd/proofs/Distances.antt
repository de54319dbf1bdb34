-- A distance of 16 bits: the difference as the code has it. Assumes nothing.
use Prim.Native.Nat.{◌≤◌}
use mathlib.Core.Path.{◌≡◌}
use lib.IntN.{ℤ, nat_abs, ◌-ℤ◌}
use mir.Syntax.{w32}
use mir.Val.{SFits, to_z, of_z}
use Rattle.laws.specs.Ints.{ints, abs_is, seen, sub-law}

-- a number as the code has it, through its bits
abbrev pub back : ℤ → ℤ
back z = to_z w32 (of_z w32 z)

module _ {a b : ℤ} (f : SFits w32 a) (g : SFits w32 b) (h : nat_abs (a -ℤ b) ≤ 32767) where
  pub diff-fits : SFits w32 (back a -ℤ back b)
  diff-fits = omega (ints, seen f, seen g, abs_is (a -ℤ b), sub-law a b)

  pub diff_is : back (back a -ℤ back b) ≡ a -ℤ b
  diff_is = let k = diff-fits in omega (ints, seen f, seen g)
