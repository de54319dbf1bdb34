-- Small numbers: the size of one in two's complement, and that it fits an i32. Assumes nothing.
use Prim.Native.Nat.{ℕ, ◌+◌, ◌^◌, ◌%◌, ◌≤◌, ◌<◌}
use mathlib.Core.Path.{◌≡◌, ◌∙◌}
use native.Mathlib.Omega.{arith}
use native.Mathlib.Numerals.{add-one}
use borrow.Author.Tests.{ltb-true, ltb-false}
use lib.Dec.{ltb}
use lib.IntN.{ℤ, pos, neg_ℤ, nat_abs, ◌-ℤ◌}
use lib.Pow.{pow_pos}
use mir.Syntax.{w32}
use mir.Val.{SFits, to_z, of_z}
use mir.Facts.{to_z-of_z, to_z_pos}
use Rattle.rules.specs.Vocabulary.{signed}
use Rattle.laws.specs.Tests.{by-test}
use Rattle.laws.specs.Ints.{mag_is, abs_is, abs-add, abs_neg}
use Rattle.laws.specs.Twos.{shifted}

pub signed-size : (k n : ℕ) → nat_abs (signed k n) ≤ 2 ^ k
unfolding signed
signed-size k n = by-test (ltb n (2 ^ k))
    (λ e. rw e (omega (arith, ltb-true n (2 ^ k) e)))
    (λ e. rw (e, add-one k) (omega (arith, ltb-false n (2 ^ k) e, pow_pos k)))

pub less-size : (m n : ℕ) → nat_abs (pos m -ℤ pos n) ≤ m + n
less-size m n = omega (arith, abs-add (pos m) (neg_ℤ (pos n)), abs_neg (pos n))

pub small-fits : (z : ℤ) → nat_abs z ≤ 32768 → SFits w32 z
small-fits z h = record { sfits = omega (arith, mag_is z, abs_is z) }

-- `((n + 2 ^ k) % 2 ^ (k + 1)) as i32 - 2 ^ k`: that the difference fits, and what it is
module _ (k n : ℕ) (h : n < 2 ^ (k + 1)) (l : 2 ^ k ≤ 32768) (s : (n + 2 ^ k) % 2 ^ (k + 1) < 2 ^ 31) where
  abbrev shift : ℤ
  shift = to_z w32 ((n + 2 ^ k) % 2 ^ (k + 1)) -ℤ pos (2 ^ k)

  pub shift_fits : SFits w32 shift
  shift_fits = rw (to_z_pos w32 s, shifted k n h) (small-fits (signed k n) (omega (arith, signed-size k n)))

  pub shift_is : to_z w32 (of_z w32 shift) ≡ signed k n
  shift_is = to_z-of_z shift_fits ∙ rw (to_z_pos w32 s) (shifted k n h)
