-- A number of 32 bits that is read as one of 64: it is the same, and so are its sign and its size. Assumes nothing.
use Prim.Native.Nat.{◌≤◌}
use mathlib.Core.Path.{◌≡◌, refl}
use mathlib.Core.Bool.{true, false}
use native.Mathlib.Omega.{arith}
use lib.IntN.{ℤ, pos, negsuc, neg_ℤ, nat_abs, ◌-ℤ◌}
use lib.Signed.{lt_z, non_neg}
use mir.Syntax.{w32, w64}
use mir.Val.{SFits, to_z, of_z}
use mir.Facts.{to_z-of_z, sfits_widen}
use Rattle.laws.specs.Ints.{ints, seen, read-wider, abs_is, abs_neg, sub-law, eq-neg, lt-true, lt-false}

pub wide : {z : ℤ} → SFits w32 z → to_z w64 (of_z w64 (to_z w32 (of_z w32 z))) ≡ z
wide f = read-wider w32 w64 tt f

pub wide_fits : {z : ℤ} → SFits w32 z → SFits w64 (to_z w32 (of_z w32 z))
wide_fits f = rw (to_z-of_z f) (sfits_widen tt f)

small : {z : ℤ} → SFits w32 z → nat_abs z ≤ 4294967295
small {z} f = omega (arith, seen f, abs_is z)

pub wide-small : {z : ℤ} → SFits w32 z → nat_abs (to_z w64 (of_z w64 (to_z w32 (of_z w32 z)))) ≤ 4294967295
wide-small f = rw (wide f) (small f)

-- and taken from 0
minus-fits : {z : ℤ} → SFits w32 z → SFits w64 (pos 0 -ℤ z)
minus-fits f = omega (ints, seen f)

pub wide-minus-fits : {z : ℤ} → SFits w32 z → SFits w64 (pos 0 -ℤ to_z w64 (of_z w64 (to_z w32 (of_z w32 z))))
wide-minus-fits f = rw (wide f) (minus-fits f)

minus : (z : ℤ) → pos 0 -ℤ z ≡ neg_ℤ z
minus z = eq-neg (pos 0 -ℤ z) z (omega (arith, sub-law (pos 0) z))

pub wide-minus : {z : ℤ} → SFits w32 z → to_z w64 (of_z w64 (pos 0 -ℤ to_z w64 (of_z w64 (to_z w32 (of_z w32 z))))) ≡ neg_ℤ z
wide-minus {z} f = rw (wide f, to_z-of_z (minus-fits f)) (minus z)

pub wide-minus-small : {z : ℤ} → SFits w32 z → nat_abs (to_z w64 (of_z w64 (pos 0 -ℤ to_z w64 (of_z w64 (to_z w32 (of_z w32 z)))))) ≤ 4294967295
wide-minus-small {z} f = rw (wide-minus f, abs_neg z) (small f)

-- the test of the sign
pub below-sign : (z : ℤ) → lt_z z (pos 0) ≡ true → non_neg z ≡ false
below-sign (pos n) e = absurd (omega (arith, lt-true (pos n) (pos 0) e))
below-sign (negsuc n) e = refl

pub above-sign : (z : ℤ) → lt_z z (pos 0) ≡ false → non_neg z ≡ true
above-sign (pos n) e = refl
above-sign (negsuc n) e = absurd (omega (arith, lt-false (negsuc n) (pos 0) e))
