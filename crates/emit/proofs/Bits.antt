-- std's `cast_unsigned` of a number that fits gives its bits. Assumes nothing.
use Prim.Native.Nat.{ℕ, ◌+◌, ◌^◌, ◌%◌, ◌<◌}
use mathlib.Core.Path.{◌≡◌, sym, ◌∙◌}
use native.Mathlib.Nat.{mod-eq_of_lt}
use native.Mathlib.Omega.{arith}
use lib.IntN.{ℤ, pos, negsuc, nat_abs}
use mir.Syntax.{Width}
use mir.Val.{SFits, bits, to_z, of_z}
use mir.Facts.{to_z-of_z}
use Rattle.rules.specs.Vocabulary.{bits_of}

pub bits-are : (w : Width) (k : ℕ) (z : ℤ) → bits w ≡ k + 1 → nat_abs z < 2 ^ (k + 1) → of_z w z ≡ bits_of k z
unfolding bits_of
bits-are w k (pos n) e h = sym (mod-eq_of_lt h)
bits-are w k (negsuc n) e h =
    let l : n < 2 ^ (k + 1) = omega arith in
    let m : n % 2 ^ (k + 1) ≡ n = mod-eq_of_lt l in
    rw (e, m) (omega arith)

-- r is the cast, of a number that a cast from type v made
pub cast-is : (w : Width) {v : Width} (k : ℕ) {z : ℤ} {r : ℕ} → bits w ≡ k + 1 → nat_abs z < 2 ^ (k + 1) → SFits w z → SFits v z
    → r ≡ of_z w (to_z w (of_z w (to_z v (of_z v z)))) → r ≡ bits_of k z
cast-is w k {z} e h f g q = q ∙ rw (to_z-of_z g, to_z-of_z f) (bits-are w k z e h)
