-- Halves toward zero, and a stitch in two bytes or in eight. Assumes nothing.
use Prim.Native.Nat.{◌/◌, ◌≤◌, ◌<◌}
use mathlib.Core.Path.{◌≡◌, refl}
use mathlib.Core.Bool.{Bool, true, false, ◌&&◌}
use mathlib.Core.List.{[], ◌∷◌}
use native.Mathlib.Omega.{arith}
use lib.IntN.{ℤ, pos, negsuc, neg_ℤ, nat_abs}
use Rattle.std.proofs.Common.{◌⊎◌, inl, inr}
use Rattle.rules.specs.Vocabulary.{between, bits_of}
use Rattle.rules.specs.Vp3.{toward_zero, stitch_of, vp3_cmd}
use Rattle.rules.specs.declared.Op.{Op}
use Rattle.rules.specs.declared.Op.TheVariants.{Jump, Trim, ColorChange, End}
use Rattle.laws.specs.Tests.{and_left, and_right}
use Rattle.laws.specs.Ints.{up, dn, ints, abs-le, between-true}
use Rattle.vp3_cmd.specs.Long.{long_of}

pub half-below : (z : ℤ) → up z < dn z → neg_ℤ (pos (dn z / 2)) ≡ toward_zero z 2
unfolding toward_zero
half-below (pos n) h = absurd (omega arith)
half-below (negsuc n) h = refl

pub half-above : (z : ℤ) → dn z ≤ up z → pos (up z / 2) ≡ toward_zero z 2
unfolding toward_zero
half-above (pos n) h = refl
half-above (negsuc n) h = absurd (omega arith)

-- what one byte holds
abbrev pub short : ℤ → Bool
short z = between (neg_ℤ (pos 127)) (pos 127) z

pub short-abs : (z : ℤ) → short z ≡ true → nat_abs z ≤ 127
short-abs z e = let p = between-true (neg_ℤ (pos 127)) (pos 127) z e in abs-le z 127 (omega ints) (omega ints)

module _ (dx dy : ℤ) where
  pub both-short : short dx && short dy ≡ true → (nat_abs dx ≤ 127) × (nat_abs dy ≤ 127)
  both-short e = (short-abs dx (and_left (short dx) (short dy) e), short-abs dy (and_right (short dx) (short dy) e))

  pub two_bytes : short dx && short dy ≡ true → stitch_of dx dy ≡ bits_of 7 dx ∷ bits_of 7 dy ∷ []
  unfolding stitch_of
  two_bytes e = rw e

  pub eight-bytes : short dx && short dy ≡ false → stitch_of dx dy ≡ long_of dx dy
  unfolding stitch_of
  eight-bytes e = rw e

-- ---- a command by its operation

-- a jump or a colour change
pub nothing : (o : Op) (dx dy : ℤ) → (o ≡ Jump) ⊎ (o ≡ ColorChange) → vp3_cmd o dx dy ≡ []
unfolding vp3_cmd
nothing o dx dy k = elim k [ inl e ↦ rw e | inr e ↦ rw e ]

-- a trim or the end
pub ends-run : (o : Op) (dx dy : ℤ) → (o ≡ Trim) ⊎ (o ≡ End) → vp3_cmd o dx dy ≡ 0x80 ∷ 0x03 ∷ []
unfolding vp3_cmd
ends-run o dx dy k = elim k [ inl e ↦ rw e | inr e ↦ rw e ]
