-- Where a JEF file's stitches begin. Assumes nothing.
use Prim.Native.Nat.{ℕ, ◌≤◌}
use mathlib.Core.Path.{◌≡◌}
use mathlib.Core.Bool.{true, false}
use mathlib.Core.List.{List, []}
use native.Mathlib.Omega.{arith}
use lib.IntN.{ℤ, pos, nat_abs}
use lib.ListN.{length, drop, length-drop}
use lib.Signed.{lt_z, le_z}
use Rattle.rules.specs.Jef.{jef_records}
use Rattle.rules.specs.Text.{word_at}
use Rattle.laws.specs.Ints.{lt-true, lt-false, true-le, false-le}
use Rattle.laws.specs.Tests.{by-test}

module _ (s : List ℕ) where
  pub jef-none : {z : ℤ} → word_at 0 s ≡ z → lt_z z (pos 0) ≡ true → [] ≡ jef_records s
  unfolding jef_records
  jef-none {z} e n = rw (e, false-le (pos 0) z (omega (arith, lt-true z (pos 0) n)))

  pub jef-from : {z : ℤ} → word_at 0 s ≡ z → lt_z z (pos 0) ≡ false → drop (nat_abs z) s ≡ jef_records s
  unfolding jef_records
  jef-from {z} e n = rw (e, true-le (pos 0) z (omega (arith, lt-false z (pos 0) n)))

  pub jef-shorter : length (jef_records s) ≤ length s
  unfolding jef_records
  jef-shorter = by-test (le_z (pos 0) (word_at 0 s)) (λ e. rw e (omega (arith, length-drop (nat_abs (word_at 0 s)) s))) (λ e. rw e (omega arith))
