-- The matrix fields are exact: for every whole z up to 2 ^ 24 either way the f32 nearest to z / 2 is z / 2 itself, and so are both fields
-- that a width and
-- a height up to 32000 give. `HasValue x s a c` says that the float x is a / c, below 0 where s is true. Assumes nothing.
use Prim.Native.Nat.{ℕ, suc, ◌+◌, ◌^◌, ◌≤◌, ◌<◌}
use mathlib.Core.Path.{◌≡◌, refl, sym, subst}
use mathlib.Core.Logic.{◌⊎◌, inl, inr}
use mathlib.Core.Bool.{Bool, true, false}
use native.Mathlib.Nat.{mul_assoc, lt_of_lt_of_le, eq-or-lt_of_le}
use native.Mathlib.Omega.{arith}
use lib.Dec.{lit<, lit≤}
use lib.Pow.{shl_lt}
use lib.IntN.{ℤ, pos, negsuc, nat_abs, ◌-ℤ◌}
use lib.Ieee.{binary32, round}
use lib.Ieee.Exact.{HasValue, round_exact}
use Rattle.rules.specs.Pes.{halves}
use Rattle.laws.specs.Ints.{sub-law, abs-le}

-- is z below 0
abbrev pub under : ℤ → Bool
under (pos n) = false
under (negsuc n) = true

-- n halves, n of at most 24 digits, are n times the format's smallest value times 2 ^ 148
few-digits : (s : Bool) (n : ℕ) → n < 2 ^ 24 → HasValue (round binary32 s n 2) s n 2
few-digits s n h = round_exact binary32 s n 2 n 148 (lit< tt) h (lt_of_lt_of_le (shl_lt 24 148 h) (lit≤ tt)) (sym (mul_assoc n (2 ^ 148) 2))

-- 2 ^ 24 has a digit more, and is one digit times a power of two
last_one : (s : Bool) → HasValue (round binary32 s (2 ^ 24) 2) s (2 ^ 24) 2
last_one s = round_exact binary32 s (2 ^ 24) 2 1 172 (lit< tt) (lit< tt) (lit< tt) refl

pub halved : (s : Bool) (n : ℕ) → n ≤ 2 ^ 24 → HasValue (round binary32 s n 2) s n 2
halved s n h = go (eq-or-lt_of_le h)
  where
    go : (n ≡ 2 ^ 24) ⊎ (n < 2 ^ 24) → HasValue (round binary32 s n 2) s n 2
    go (inl e) = subst (λ (k : ℕ). HasValue (round binary32 s k 2) s k 2) (sym e) (last_one s)
    go (inr l) = few-digits s n l

pub exact : (z : ℤ) → nat_abs z ≤ 2 ^ 24 → HasValue (halves z) (under z) (nat_abs z) 2
unfolding halves
exact (pos n) h = halved false n h
exact (negsuc n) h = halved true (suc n) h

-- 1000 - width / 2 and 1000 + height / 2
pub small-x : (w : ℕ) → w ≤ 32000 → nat_abs (pos 2000 -ℤ pos w) ≤ 2 ^ 24
small-x w h = abs-le (pos 2000 -ℤ pos w) (2 ^ 24) (omega (arith, sub-law (pos 2000) (pos w))) (omega (arith, sub-law (pos 2000) (pos w)))

pub exact-x : (w : ℕ) → w ≤ 32000 → let z : ℤ = pos 2000 -ℤ pos w in HasValue (halves z) (under z) (nat_abs z) 2
exact-x w h = exact (pos 2000 -ℤ pos w) (small-x w h)

pub exact-y : (h : ℕ) → h ≤ 32000 → HasValue (halves (pos (2000 + h))) false (2000 + h) 2
exact-y h l = exact (pos (2000 + h)) (omega arith)
