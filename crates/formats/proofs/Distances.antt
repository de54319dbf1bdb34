-- How large the distance of two colours is, and its parts. Assumes nothing.
use Prim.Native.Nat.{ℕ, ◌+◌, ◌-◌, ◌*◌, ◌/◌, ◌%◌, ◌<◌, ◌≤◌}
use native.Mathlib.Omega.{arith}
use native.Mathlib.Nat.{mul-le-mul, mul-le-mul_left}
use Rattle.rules.specs.Choices.{half_to_even, gap, weighed, distance}
use Rattle.rules.specs.declared.Color.{Color}

-- the half that is added is at most the odd one
pub bit : (n : ℕ) → n % 2 * (n / 2 % 2) ≤ n % 2
bit n = mul-le (n % 2) (n / 2 % 2) (omega arith)
  where
    mul-le : (a b : ℕ) → b ≤ 1 → a * b ≤ a
    mul-le a b h = omega (arith, mul-le-mul_left {m = b} {n = 1} a h)

pub half-most : (n : ℕ) → n ≤ 510 → half_to_even n ≤ 255
unfolding half_to_even
half-most n h = omega (arith, bit n)

gap-most : (m n : ℕ) → m < 256 → n < 256 → gap m n ≤ 255
unfolding gap
gap-most m n h l = omega arith

-- the products of the weighing
pub square : {n : ℕ} → n ≤ 255 → n * n ≤ 65025
square h = mul-le-mul h h

pub times : {k n : ℕ} → k ≤ 767 → n ≤ 255 → k * (n * n) ≤ 49874175
times h l = mul-le-mul {n₂ = 767} h (square l)

weighed-most : (m r g b : ℕ) → m ≤ 255 → r ≤ 255 → g ≤ 255 → b ≤ 255 → weighed m r g b ≤ 649740
unfolding weighed
weighed-most m r g b hm hr hg hb = omega (arith, times {k = 512 + m} (omega arith) hr, square hg, times {k = 767 - m} (omega arith) hb)

-- three bytes
pub record Bytes (c : Color) : Type 0 where
  pub red : c.0 < 256
  pub green : c.1 < 256
  pub blue : c.2 < 256

pub distance_most : (a b : Color) → Bytes a → Bytes b → distance a b ≤ 649740
unfolding distance
distance_most a b h l = weighed-most _ _ _ _
    (half-most (a.0 + b.0) (omega arith))
    (gap-most a.0 b.0 h.red l.red)
    (gap-most a.1 b.1 h.green l.green)
    (gap-most a.2 b.2 h.blue l.blue)
