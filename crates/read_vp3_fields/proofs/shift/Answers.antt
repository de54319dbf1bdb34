-- Both halves of the numbers of 32 bits. Assumes nothing.
use Prim.Native.Nat.{ℕ, suc, ◌+◌, ◌-◌, ◌/◌, ◌^◌, ◌≤◌, ◌<◌}
use mathlib.Core.Path.{◌≡◌, sym, ap, ◌∙◌}
use native.Mathlib.Omega.{arith}
use lib.IntN.{ℤ, pos, ◌-ℤ◌, nat_abs}
use mir.Syntax.{w64}
use mir.Val.{to_z}
use mir.Facts.{to_z_pos, to_z-of_z}
use Rattle.rules.specs.Vocabulary.{signed}
use Rattle.rules.specs.Vp3.{toward_zero}
use Rattle.laws.specs.Ints.{ints, abs_neg}
use Rattle.laws.specs.Tests.{pick-ge}
use Rattle.laws.specs.Twos.{signed_low}
use Rattle.read_vp3_fields.proofs.Within.{zero-sub}
use Rattle.read_vp3_fields.proofs.shift.Goals as goal

below : (n : ℕ) → n < 2147483648 → toward_zero (signed 31 n) 100 ≡ pos (n / 100)
unfolding toward_zero
below n h = rw (signed_low 31 n (omega arith))

-- from half on
above : (n : ℕ) → 2147483648 ≤ n → n < 4294967296 → toward_zero (signed 31 n) 100 ≡ pos 0 -ℤ pos ((4294967296 - n) / 100)
unfolding toward_zero signed
above n h l =
    let p : suc (4294967296 - (n + 1)) ≡ 4294967296 - n = omega arith in
    ap (λ (z : ℤ). toward_zero z 100) (pick-ge n (2 ^ 31) _ _ (omega arith)) ∙ rw p (sym (zero-sub (pos ((4294967296 - n) / 100))))

read : (n : ℕ) → n ≤ 4294967296 → to_z w64 (n / 100) ≡ pos (n / 100)
read n h = to_z_pos w64 (omega arith)

size : (k : ℕ) → nat_abs (pos 0 -ℤ pos k) ≡ k
size k = ap nat_abs (zero-sub (pos k)) ∙ abs_neg (pos k)

pub returns-then-n-lt2147483648 : goal.returns-then-n-lt2147483648
returns-then-n-lt2147483648 c = let n = c.args.n in rw (read n (omega arith)) (sym (below n c.if-n-lt2147483648.true), omega arith)

pub overflow_sub-result : goal.overflow_sub-result
overflow_sub-result c = let n = c.args.n in rw (read (4294967296 - n) (omega arith)) (omega ints)

pub returns : goal.returns
returns c = let n = c.args.n in
    rw (to_z-of_z (overflow_sub-result c), read (4294967296 - n) (omega arith)) (sym (above n c.if-n-lt2147483648.false (omega arith)), omega (arith, size ((4294967296 - n) / 100)))
