-- The digits of a step by the greedy rule, as the code has them, and the bits of one digit. Assumes nothing.
use Prim.Native.Nat.{ℕ, zero, suc, ◌+◌, ◌^◌, ◌≤◌, ◌<◌}
use mathlib.Core.Path.{◌≡◌, refl, ap, ◌∙◌}
use native.Mathlib.Omega.{arith}
use borrow.Author.Tests.{ltb-true, ltb-false}
use lib.IntN.{ℤ, pos, negsuc, nat_abs, neg_ℤ, ◌+ℤ◌, ◌-ℤ◌, ◌*ℤ◌}
use lib.Dec.{ltb}
use lib.Signed.{mag}
use mir.Syntax.{w32}
use mir.Val.{SFits, hbits, to_z, of_z}
use Rattle.rules.specs.Dst.{Digit, minus, nought, plus, digit, rest, z27, z9, z3, z1, pair}
use Rattle.laws.specs.Tests.{by-test}
use Rattle.laws.specs.Ints.{ints, up, dn, abs_is, abs-le, neg-law, add-law, sub-law, mul-law, ret, true-lt, false-lt}
use Rattle.stream_cmd.specs.Cmds.{digit_value}

-- a digit is the sign of its number, which is from -1 to 1
pub sign : (d : Digit) → digit 0 (digit_value d) ≡ d
unfolding digit digit_value
sign minus = refl
sign nought = refl
sign plus = refl

pub value-small : (d : Digit) → nat_abs (digit_value d) ≤ 1
unfolding digit_value
value-small minus = omega arith
value-small nought = omega arith
value-small plus = omega arith

-- what each outcome of the two tests says
module _ (h : ℕ) (z : ℤ) where
  pub plus-if : h + dn z < up z → digit h z ≡ plus
  unfolding digit
  plus-if l = rw (true-lt (pos h) z (omega arith))

  pub minus-if : up z ≤ h + dn z → h + up z < dn z → digit h z ≡ minus
  unfolding digit
  minus-if k l = rw (false-lt (pos h) z (omega arith), true-lt z (neg_ℤ (pos h)) (omega (arith, neg-law (pos h))))

  pub nought-if : up z ≤ h + dn z → dn z ≤ h + up z → digit h z ≡ nought
  unfolding digit
  nought-if k l = rw (false-lt (pos h) z (omega arith), false-lt z (neg_ℤ (pos h)) (omega (arith, neg-law (pos h))))

-- what a product takes away is what the digit does
pub taken : (w : ℕ) (d z : ℤ) → nat_abs d ≤ 1 → z -ℤ d *ℤ pos w ≡ rest w (digit 0 d) z
unfolding digit rest
taken w (pos zero) z h = omega (ints, sub-law z (pos 0 *ℤ pos w), mul-law (pos 0) w)
taken w (pos (suc zero)) z h = omega (ints, sub-law z (pos 1 *ℤ pos w), mul-law (pos 1) w)
taken w (pos (suc (suc n))) z h = absurd (omega arith)
taken w (negsuc zero) z h = omega (ints, sub-law z (negsuc 0 *ℤ pos w), mul-law (negsuc 0) w)
taken w (negsuc (suc n)) z h = absurd (omega arith)

-- what it leaves is a step too
pub rest-small : (w h : ℕ) (z : ℤ) → w ≤ 81 → nat_abs z ≤ 121 → nat_abs (rest w (digit h z) z) ≤ 121
unfolding rest
rest-small w h z l a =
    by-test (ltb (h + dn z) (up z))
    (λ e. rw (plus-if h z (ltb-true _ _ e))
    (abs-le (z -ℤ pos w) 121 (omega (ints, abs_is z, sub-law z (pos w))) (omega (ints, abs_is z, sub-law z (pos w), ltb-true))))
    (λ e. by-test (ltb (h + up z) (dn z))
    (λ k. rw (minus-if h z (ltb-false _ _ e) (ltb-true _ _ k))
    (abs-le (z +ℤ pos w) 121 (omega (ints, abs_is z, add-law z (pos w), ltb-true)) (omega (ints, abs_is z, add-law z (pos w)))))
    (λ k. rw (nought-if h z (ltb-false _ _ e) (ltb-false _ _ k)) a))

-- so is what each of the first three leaves
pub lower-small : (z : ℤ) → nat_abs z ≤ 121 → (nat_abs (z27 z) ≤ 121) × ((nat_abs (z9 z) ≤ 121) × (nat_abs (z3 z) ≤ 121))
unfolding z27 z9 z3
lower-small z h =
    let a = rest-small 81 40 z (omega arith) h in
    let b = rest-small 27 13 (z27 z) (omega arith) a in
    (a, (b, rest-small 9 4 (z9 z) (omega arith) b))

-- no step has no digits
pub record Still : Type 0 where
  pub d81 : digit 40 (pos 0) ≡ nought
  pub d27 : digit 13 (z27 (pos 0)) ≡ nought
  pub d9 : digit 4 (z9 (pos 0)) ≡ nought
  pub d3 : digit 1 (z3 (pos 0)) ≡ nought
  pub d1 : digit 0 (z1 (pos 0)) ≡ nought

pub still : Still
unfolding digit rest z27 z9 z3 z1
still = record { d81 = refl; d27 = refl; d9 = refl; d3 = refl; d1 = refl }

-- ---- as the code has them, through their bits

abbrev pub back : ℤ → ℤ
back z = to_z w32 (of_z w32 z)

pub sign-back : (d : Digit) → digit 0 (back (digit_value d)) ≡ d
unfolding digit digit_value
sign-back minus = refl
sign-back nought = refl
sign-back plus = refl

-- the digit d of z, and what it leaves
module _ (h : ℕ) {z z' d : ℤ} (e : z ≡ z') (k : mag d < 2 ^ hbits w32) (f : d ≡ digit_value (digit h z)) where
  pub digit-is : back d ≡ digit_value (digit h z')
  digit-is = ret w32 d k ∙ f ∙ ap (λ (x : ℤ). digit_value (digit h x)) e

  pub rest-is : (w : ℕ) {r : ℤ} → mag r < 2 ^ hbits w32 → r ≡ rest w (digit 0 (back d)) z → back r ≡ rest w (digit h z') z'
  rest-is w {r} l g = ret w32 r l ∙ g ∙ rw (digit-is, sign (digit h z'), e)

pub rest-fits : (w : ℕ) (d : Digit) (z : ℤ) → w < 256 → nat_abs z ≤ 121 → SFits w32 (rest w d z)
unfolding rest
rest-fits w minus z l h = omega (ints, abs_is z)
rest-fits w nought z l h = omega (ints, abs_is z)
rest-fits w plus z l h = omega (ints, abs_is z)

-- ---- the bits of a digit

pub pair-most : (p m : ℕ) (d : Digit) → pair p m d ≤ p + m
unfolding pair
pair-most p m minus = omega arith
pair-most p m nought = omega arith
pair-most p m plus = omega arith
