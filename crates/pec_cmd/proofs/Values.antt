-- A step of a stitch in one byte or in two, and how many bytes a stitch and a colour change take. Assumes nothing.
use Prim.Native.Nat.{◌+◌, ◌≤◌}
use mathlib.Core.Path.{◌≡◌}
use mathlib.Core.Bool.{Bool, true, false, not, ◌&&◌}
use mathlib.Core.List.{[], ◌∷◌, ◌++◌}
use native.Mathlib.Omega.{arith}
use lib.IntN.{ℤ, pos, neg_ℤ, nat_abs}
use lib.ListN.{length, length-append}
use Rattle.rules.specs.Vocabulary.{pick, eq_z, between, bits_of}
use Rattle.rules.specs.Pec.{wide, pec_value, PecState, pause, pec_cmd}
use Rattle.rules.specs.declared.Op.TheVariants.{Stitch, ColorChange}
use Rattle.laws.specs.Tests.{by-test}
use Rattle.laws.specs.Ints.{ints, abs-le, between-true}

-- what one byte holds
abbrev pub short : ℤ → Bool
short z = between (neg_ℤ (pos 63)) (pos 62) z

module _ (z : ℤ) where
  pub one_byte : short z ≡ true → pec_value z ≡ bits_of 6 z ∷ []
  unfolding pec_value
  one_byte e = rw e

  pub two_bytes : short z ≡ false → pec_value z ≡ wide 0x80 z
  unfolding pec_value
  two_bytes e = rw e

  pub short-abs : short z ≡ true → nat_abs z ≤ 63
  short-abs e = let p = between-true (neg_ℤ (pos 63)) (pos 62) z e in abs-le z 63 (omega ints) (omega ints)

  -- how long they are
  one-long : short z ≡ true → length (pec_value z) ≡ 1
  one-long e = rw (one_byte e)

  two-long : short z ≡ false → length (pec_value z) ≡ 2
  unfolding wide
  two-long e = rw (two_bytes e)

  some : 1 ≤ length (pec_value z)
  some = by-test (short z) (λ e. omega (arith, one-long e)) (λ e. omega (arith, two-long e))

  one-short : length (pec_value z) ≤ 1 → short z ≡ true
  one-short h = by-test (short z) (λ e. e) (λ e. absurd (omega (arith, two-long e)))

-- two steps in two bytes
module _ (dx dy : ℤ) where
  pub both-short : length (pec_value dx ++ pec_value dy) ≡ 2 → (short dx ≡ true) × (short dy ≡ true)
  both-short e =
      let l = length-append (pec_value dx) (pec_value dy) in
      (one-short dx (omega (arith, some dy)), one-short dy (omega (arith, some dx)))

  pub both_bytes : (short dx ≡ true) × (short dy ≡ true) → pec_value dx ++ pec_value dy ≡ bits_of 6 dx ∷ bits_of 6 dy ∷ []
  both_bytes h = rw (one_byte dx h.0, one_byte dy h.1)

-- ---- the bytes that a stitch and a colour change take

module _ (s : PecState) (dx dy : ℤ) where
  -- whether a stitch 00 00 comes first
  abbrev pub first : Bool
  first = s.jumped && (not (eq_z dx (pos 0)) && not (eq_z dy (pos 0)))

  pub stitch-long : length (pec_cmd s Stitch dx dy) ≡ length (pause first) + (length (pec_value dx) + length (pec_value dy))
  unfolding pec_cmd
  stitch-long = omega (arith, length-append (pause first) (pec_value dx ++ pec_value dy), length-append (pec_value dx) (pec_value dy))

  pub change-long : length (pec_cmd s ColorChange dx dy) ≡ length (pause s.jumped) + 3
  unfolding pec_cmd
  change-long = length-append (pause s.jumped) (0xFE ∷ 0xB0 ∷ pick s.two 0x02 0x01 ∷ [])
