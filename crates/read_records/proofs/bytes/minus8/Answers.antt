-- Nought less the number.
use native.Mathlib.Omega.{arith}
use Prim.Native.Nat.{ℕ}
use mathlib.Core.Path.{◌≡◌}
use mir.Syntax.{w32}
use mir.Val.{SFits, to_z, of_z}
use lib.IntN.{ℤ, pos, neg_ℤ, ◌-ℤ◌, +ℤ_idl}
use mir.Facts.{to_z-of_z}
use Rattle.rules.specs.Vocabulary.{signed}
use Rattle.laws.specs.Ints.{abs_neg}
use Rattle.read_records.proofs.Signs.{signed-size, small-fits}
use Rattle.read_records.proofs.bytes.minus8.Goals as goal

module _ (b : ℕ) {r : ℤ} (e : r ≡ signed 7 b) where
  fits : SFits w32 (neg_ℤ (signed 7 b))
  fits = small-fits _ (omega (arith, abs_neg (signed 7 b), signed-size 7 b))

  minus : pos 0 -ℤ to_z w32 (of_z w32 r) ≡ neg_ℤ (signed 7 b)
  minus = rw (e, to_z-of_z (small-fits (signed 7 b) (omega (arith, signed-size 7 b))), +ℤ_idl)

pub overflow_sub-result : goal.overflow_sub-result
overflow_sub-result c = rw (minus _ c.s8.ensures) (fits _ c.s8.ensures)

pub returns : goal.returns
returns c = rw (minus _ c.s8.ensures) (to_z-of_z (fits _ c.s8.ensures))
