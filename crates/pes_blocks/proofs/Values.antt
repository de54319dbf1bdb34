-- The product that the code works out is the f32 nearest to z / 2, it is no NaN, and the numbers that go into it fit. Assumes nothing.
use Prim.Native.Nat.{ℕ, suc, ◌+◌, ◌*◌, ◌^◌, ◌≤◌}
use mathlib.Core.Path.{◌≡◌, refl, ap, ◌∙◌}
use mathlib.Core.Bool.{Bool, true, false, not}
use native.Mathlib.Nat.{mul_assoc, mul-pos}
use native.Mathlib.Omega.{arith}
use lib.Dec.{T, lit<, le→leb, lt→ltb}
use lib.IntN.{ℤ, pos, negsuc, nat_abs, ◌-ℤ◌}
use lib.Ieee.{Float, nan, inf, fin, binary32, up, down, unlike, round, mul, of_int, of_bits, in_float, is_nan}
use lib.Ieee.Back.{round_whole}
use lib.Ieee.Exact.{HasValue}
use lib.Ieee.Fits.{down_pos}
use lib.Ieee.Scale.{round_same}
use mir.Syntax.{w32}
use mir.Val.{SFits, to_z, of_z}
use mir.Facts.{to_z-of_z, to_z_pos}
use Rattle.rules.specs.Pes.{halves}
use Rattle.laws.specs.Ints.{ints}
use Rattle.pes_blocks.proofs.Exact.{under, exact, small-x}

-- ---- a number as an f32, times 0.5

plain-sign : (s : Bool) → unlike s false ≡ s
plain-sign true = refl
plain-sign false = refl

by-half : (x : Float) (s : Bool) (n : ℕ) → HasValue x s n 1 → mul binary32 x (fin false 1 (negsuc 0)) ≡ round binary32 s n 2
unfolding mul
by-half nan s n h = absurd h
by-half (inf t) s n h = absurd h
by-half (fin t m e) s n h =
    rw (h.0, plain-sign s)
    (round_same binary32 s (m * up e * 1) (down e * 2) n 2 (mul-pos (down_pos e) (lit< tt)) (lit< tt) (ap (λ (k : ℕ). k * 2) h.1 ∙ mul_assoc n (down e) 2))

pub product_is : (z : ℤ) → nat_abs z ≤ 2 ^ 24 → mul binary32 (of_int binary32 z) (of_bits binary32 0x3F00_0000) ≡ halves z
unfolding of_int of_bits halves
product_is (pos n) h = by-half (round binary32 false n 1) false n (round_whole binary32 false n h)
product_is (negsuc n) h = by-half (round binary32 true (suc n) 1) true (suc n) (round_whole binary32 true (suc n) h)

pub casts : (z : ℤ) → nat_abs z ≤ 2 ^ 24 → T (in_float binary32 z)
unfolding in_float
casts (pos n) h = le→leb n (2 ^ 24) h
casts (negsuc n) h = lt→ltb n (2 ^ 24) h

-- ---- what has a value is no NaN

valued : (x : Float) (s : Bool) (a c : ℕ) → HasValue x s a c → T (not (is_nan x))
unfolding is_nan
valued nan s a c h = absurd h
valued (inf t) s a c h = absurd h
valued (fin t m e) s a c h = tt

pub no_nan : {x : Float} (z : ℤ) → nat_abs z ≤ 2 ^ 24 → x ≡ halves z → T (not (is_nan x))
no_nan z h e = rw e (valued (halves z) (under z) (nat_abs z) 2 (exact z h))

-- ---- the two numbers that are not constant

module _ {w : ℕ} (h : w ≤ 32000) where
  pub minus-fits : SFits w32 (pos 2000 -ℤ to_z w32 w)
  minus-fits = rw (to_z_pos w32 {n = w} (omega arith)) (omega ints)

  pub minus_is : to_z w32 (of_z w32 (pos 2000 -ℤ to_z w32 w)) ≡ pos 2000 -ℤ pos w
  minus_is = to_z-of_z minus-fits ∙ rw (to_z_pos w32 {n = w} (omega arith))

  pub minus-small : nat_abs (to_z w32 (of_z w32 (pos 2000 -ℤ to_z w32 w))) ≤ 16777216
  minus-small = rw minus_is (small-x w h)

  pub plus-is : to_z w32 (2000 + w) ≡ pos (2000 + w)
  plus-is = to_z_pos w32 (omega arith)

  pub plus-small : nat_abs (to_z w32 (2000 + w)) ≤ 16777216
  plus-small = rw plus-is (omega arith)
