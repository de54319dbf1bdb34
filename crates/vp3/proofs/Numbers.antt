-- Small numbers, their negatives and their differences, as the code has them. Assumes nothing.
use Prim.Native.Nat.{◌*◌, ◌≤◌}
use mathlib.Core.Path.{◌≡◌, ap, ◌∙◌}
use native.Mathlib.Omega.{arith}
use lib.IntN.{ℤ, pos, negsuc, neg_ℤ, nat_abs, ◌+ℤ◌, ◌-ℤ◌, ◌*ℤ◌}
use mir.Facts.{to_z-of_z}
use mir.Syntax.{w32}
use mir.Val.{SFits, to_z, of_z}
use Rattle.rules.specs.Vp3.{toward_zero, hundred}
use Rattle.laws.specs.Ints.{up, dn, Is, ints, seen, abs_is, abs_neg, abs-le, abs-add, neg-law, sub-law}

-- a number as read back from its bits
abbrev pub read : ℤ → ℤ
read z = to_z w32 (of_z w32 z)

module _ (z : ℤ) (h : nat_abs z ≤ 131071) where
  pub fits-small : SFits w32 z
  fits-small = omega (ints, abs_is z)

  pub back-small : read z ≡ z
  back-small = to_z-of_z fits-small

  pub back-abs : nat_abs (read z) ≤ 131071
  back-abs = rw back-small h

  pub minus-fits : SFits w32 (pos 0 -ℤ read z)
  minus-fits = rw back-small (omega (ints, abs_is z))

  pub minus-back : read (pos 0 -ℤ read z) ≡ neg_ℤ z
  minus-back = let f = minus-fits in omega (ints, seen fits-small)

-- what `put_hundred` asks of a number and of its negative
module _ (z : ℤ) (h : nat_abs z ≤ 65535) where
  pub asked : nat_abs (read z) ≤ 65535
  asked = rw (back-small z (omega arith)) h

  pub asked-minus : nat_abs (read (pos 0 -ℤ read z)) ≤ 65535
  asked-minus = rw (minus-back z (omega arith), abs_neg z) h

-- a half, as the code has it of z
module _ (z r : ℤ) (h : nat_abs z ≤ 131071) (e : (r ≡ toward_zero (read z) 2) × (nat_abs r ≤ 65535)) where
  half_is : r ≡ toward_zero z 2
  half_is = rw (back-small z h) at e.0

  pub put-half : hundred (read r) ≡ hundred (toward_zero z 2)
  put-half = rw (back-small r (omega (arith, e.1)), half_is)

  pub put-minus-half : hundred (read (pos 0 -ℤ read r)) ≡ hundred (neg_ℤ (toward_zero z 2))
  put-minus-half = rw (minus-back r (omega (arith, e.1)), half_is)

-- a difference of two places
module _ (a b : ℤ) (h : nat_abs a ≤ 16000) (k : nat_abs b ≤ 16000) where
  pub step_small : nat_abs (a -ℤ b) ≤ 32000
  step_small = abs-le (a -ℤ b) 32000 (omega (arith, sub-law a b, abs_is a, abs_is b)) (omega (arith, sub-law a b, abs_is a, abs_is b))

  small : nat_abs (a -ℤ b) ≤ 65535
  small = omega (arith, step_small)

  near : nat_abs (a -ℤ b) ≤ 131071
  near = omega (arith, step_small)

  pub step_is : read a -ℤ read b ≡ a -ℤ b
  step_is = rw (back-small a (omega arith), back-small b (omega arith))

  pub step_fits : SFits w32 (read a -ℤ read b)
  step_fits = rw step_is (fits-small (a -ℤ b) near)

  pub step-asked : nat_abs (read (read a -ℤ read b)) ≤ 65535
  step-asked = rw step_is (asked (a -ℤ b) small)

  pub minus-step-fits : SFits w32 (pos 0 -ℤ read (read a -ℤ read b))
  minus-step-fits = rw step_is (minus-fits (a -ℤ b) near)

  pub minus-step-asked : nat_abs (read (pos 0 -ℤ read (read a -ℤ read b))) ≤ 65535
  minus-step-asked = rw step_is (asked-minus (a -ℤ b) small)

  pub put_step : hundred (read (read a -ℤ read b)) ≡ hundred (a -ℤ b)
  put_step = rw (step_is, back-small (a -ℤ b) near)

  pub put-minus-step : hundred (read (pos 0 -ℤ read (read a -ℤ read b))) ≡ hundred (neg_ℤ (a -ℤ b))
  put-minus-step = rw (step_is, minus-back (a -ℤ b) near)

-- a sum of two places
module _ (a b : ℤ) (h : nat_abs a ≤ 16000) (k : nat_abs b ≤ 16000) where
  pub sum-small : nat_abs (a +ℤ b) ≤ 32000
  sum-small = omega (arith, abs-add a b)

  sum_is : read a +ℤ read b ≡ a +ℤ b
  sum_is = rw (back-small a (omega arith), back-small b (omega arith))

  pub sum_fits : SFits w32 (read a +ℤ read b)
  sum_fits = rw sum_is (fits-small (a +ℤ b) (omega (arith, sum-small)))

  pub sum_back : read (read a +ℤ read b) ≡ a +ℤ b
  sum_back = ap read sum_is ∙ back-small (a +ℤ b) (omega (arith, sum-small))

-- twice a place less twice the centre
twice-law : (z : ℤ) → Is (pos 2 *ℤ z) (2 * up z) (2 * dn z)
twice-law (pos n) = omega arith
twice-law (negsuc n) = omega (arith, neg-law (pos (2 * dn (negsuc n))))

module _ (z m : ℤ) (h : nat_abs z ≤ 16000) (k : nat_abs m ≤ 32000) where
  twice-small : nat_abs (pos 2 *ℤ z) ≤ 131071
  twice-small = abs-le (pos 2 *ℤ z) 131071 (omega (arith, twice-law z, abs_is z)) (omega (arith, twice-law z, abs_is z))

  less-small : nat_abs (pos 2 *ℤ z -ℤ m) ≤ 131071
  less-small =
      let law = sub-law (pos 2 *ℤ z) m in
      abs-le (pos 2 *ℤ z -ℤ m) 131071 (omega (arith, law, twice-law z, abs_is z, abs_is m)) (omega (arith, law, twice-law z, abs_is z, abs_is m))

  less-is : read (pos 2 *ℤ read z) -ℤ read m ≡ pos 2 *ℤ z -ℤ m
  less-is = rw (back-small z (omega arith), back-small m (omega arith), back-small (pos 2 *ℤ z) twice-small)

  pub twice-fits : SFits w32 (pos 2 *ℤ read z)
  twice-fits = rw (back-small z (omega arith)) (fits-small (pos 2 *ℤ z) twice-small)

  pub less-fits : SFits w32 (read (pos 2 *ℤ read z) -ℤ read m)
  less-fits = rw less-is (fits-small (pos 2 *ℤ z -ℤ m) less-small)

  pub less_asked : nat_abs (read (read (pos 2 *ℤ read z) -ℤ read m)) ≤ 131071
  less_asked = rw less-is (back-abs (pos 2 *ℤ z -ℤ m) less-small)

  module _ (r : ℤ) (e : (r ≡ toward_zero (read (read (pos 2 *ℤ read z) -ℤ read m)) 2) × (nat_abs r ≤ 65535)) where
    pub put-less : hundred (read r) ≡ hundred (toward_zero (pos 2 *ℤ z -ℤ m) 2)
    put-less = put-half (pos 2 *ℤ z -ℤ m) r less-small (rw less-is at e)

    pub put-minus-less : hundred (read (pos 0 -ℤ read r)) ≡ hundred (neg_ℤ (toward_zero (pos 2 *ℤ z -ℤ m) 2))
    put-minus-less = put-minus-half (pos 2 *ℤ z -ℤ m) r less-small (rw less-is at e)
