-- Places within 32 bits and beyond them. Assumes nothing.
use Prim.Native.Nat.{◌^◌, ◌<◌}
use mathlib.Core.Path.{◌≡◌, ap}
use mathlib.Core.Bool.{Bool, true, false, not}
use native.Mathlib.Omega.{arith}
use lib.IntN.{ℤ, pos, negsuc, nat_abs}
use lib.Signed.{le_z, mag}
use mir.Syntax.{w32}
use mir.Val.{SFits}
use Rattle.rules.specs.Vocabulary.{between}
use Rattle.rules.specs.Vp3.{beyond}
use Rattle.laws.specs.Ints.{fit, one0, mag_is, abs_is, seen, true-le, le-true}
use Rattle.laws.specs.Tests.{by-test, clash, and_left, and_right, and-true}

abbrev pub lowest : ℤ
lowest = negsuc 2147483647

abbrev pub highest : ℤ
highest = pos 2147483647

-- ---- beyond or not

pub in-range : (z : ℤ) → mag z < 2 ^ 31 → beyond z ≡ false
unfolding beyond between
in-range z h =
    let a : le_z lowest z ≡ true = true-le lowest z (omega (arith, mag_is z)) in
    let b : le_z z highest ≡ true = true-le z highest (omega (arith, mag_is z)) in
    ap not (and-true (le_z lowest z) (le_z z highest) a b)

passes : (b : Bool) → not b ≡ false → b ≡ true
passes b e = by-test b (λ t. t) (λ f. clash (not b) (rw f) e)

pub range-of : (z : ℤ) → beyond z ≡ false → mag z < 2 ^ 31
unfolding beyond between
range-of z e =
    let t = passes _ e in
    let a = le-true lowest z (and_left (le_z lowest z) (le_z z highest) t) in
    let b = le-true z highest (and_right (le_z lowest z) (le_z z highest) t) in
    omega (arith, mag_is z, one0 z)

-- a place that stays so near to 0
pub near-range : (z : ℤ) → nat_abs z < 2 ^ 31 → beyond z ≡ false
near-range z h = in-range z (omega (arith, mag_is z, abs_is z))

-- what fits 32 bits, and what does not
pub fits_within : (z : ℤ) → SFits w32 z → beyond z ≡ false
fits_within z f = in-range z (omega (arith, seen f, mag_is z))

pub unfit-beyond : (z : ℤ) → (SFits w32 z → ⊥) → beyond z ≡ true
unfit-beyond z n = by-test (beyond z) (λ t. t) (λ f. absurd (n (fit w32 z (range-of z f))))
