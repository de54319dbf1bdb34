-- EXP and JEF: the first record of what stands from i on, by the tests that the code makes. Assumes nothing.
use Prim.Native.Nat.{ℕ, ◌+◌, ◌<◌}
use mathlib.Core.Path.{◌≡◌, refl}
use mathlib.Core.Bool.{Bool}
use mathlib.Core.List.{List, [], ◌∷◌}
use native.Mathlib.Omega.{arith}
use borrow.Author.Tests.{eq-eqb, ne_eqb}
use lib.ListN.{length, get_or, drop, length-drop}
use lib.IntN.{neg_ℤ}
use Rattle.rules.specs.Vocabulary.{signed}
use Rattle.rules.specs.Exp.{control, after80, pair_first}
use Rattle.rules.specs.declared.Record.TheVariants.{StitchBy, Finish}
use Rattle.read_records.proofs.Parts.{drop-two, drop-four}

module _ (jef : Bool) where
  short : (l : List ℕ) → length l < 2 → pair_first jef l ≡ Finish
  unfolding pair_first
  short [] h = refl
  short (a ∷ []) h = refl
  short (a ∷ b ∷ l) h = absurd (omega arith)

  cut : (l : List ℕ) → length l < 3 → after80 jef l ≡ Finish
  unfolding after80
  cut [] h = refl
  cut (a ∷ []) h = refl
  cut (a ∷ b ∷ []) h = refl
  cut (a ∷ b ∷ d ∷ l) h = absurd (omega arith)

  module _ (s : List ℕ) (i : ℕ) where
    pub pair-short : length s < i + 2 → pair_first jef (drop i s) ≡ Finish
    pair-short h = short (drop i s) (omega (arith, length-drop i s))

    pub pair-stitch : i + 1 < length s → (get_or s i 0 ≡ 128 → ⊥)
        → pair_first jef (drop i s) ≡ StitchBy (signed 7 (get_or s i 0)) (neg_ℤ (signed 7 (get_or s (i + 1) 0))) 2
    unfolding pair_first
    pair-stitch h k = rw (drop-two s i h, ne_eqb _ _ k)

    pub pair-cut : i + 1 < length s → get_or s i 0 ≡ 128 → length s < i + 4 → pair_first jef (drop i s) ≡ Finish
    unfolding pair_first
    pair-cut h k l = rw (drop-two s i h, eq-eqb _ _ k) (cut (get_or s (i + 1) 0 ∷ drop (i + 2) s) (omega (arith, length-drop (i + 2) s)))

    pub pair_end : i + 3 < length s → get_or s i 0 ≡ 128 → get_or s (i + 1) 0 ≡ 16 → pair_first jef (drop i s) ≡ Finish
    unfolding pair_first after80
    pair_end h k l = rw (drop-four s i h, eq-eqb _ _ k, eq-eqb _ _ l)

    pub pair-control : i + 3 < length s → get_or s i 0 ≡ 128 → (get_or s (i + 1) 0 ≡ 16 → ⊥)
        → pair_first jef (drop i s) ≡ control jef (get_or s (i + 1) 0) (signed 7 (get_or s (i + 2) 0)) (neg_ℤ (signed 7 (get_or s (i + 3) 0)))
    unfolding pair_first after80
    pair-control h k l = rw (drop-four s i h, eq-eqb _ _ k, ne_eqb _ _ l)
