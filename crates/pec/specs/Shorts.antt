-- Stitches whose two steps take one byte each.
use Rattle.std.specs.Prelude.{ℕ, zero, suc, ◌-◌, ◌≤◌, ◌<◌, ◌≡◌, true, List, [], ◌∷◌, ℤ, pos, neg_ℤ, ◌-ℤ◌, get_or}
use Rattle.rules.specs.Vocabulary.{between, bits_of}

-- the step to place i of one axis
abbrev pub step_to : List ℤ → ℕ → ℤ
step_to zs i = get_or zs i (pos 0) -ℤ get_or zs (i - 1) (pos 0)

pub record ShortAt (xs ys : List ℤ) (ks : List ℕ) (i : ℕ) : Type 0 where
  pub stitch : get_or ks i 0 ≡ 0
  pub x : between (neg_ℤ (pos 63)) (pos 62) (step_to xs i) ≡ true
  pub y : between (neg_ℤ (pos 63)) (pos 62) (step_to ys i) ≡ true

-- from i to before j
abbrev pub Shorts : List ℤ → List ℤ → List ℕ → ℕ → ℕ → Type 0
Shorts xs ys ks i j = (k : ℕ) → i ≤ k → k < j → ShortAt xs ys ks k

-- their bytes, of n from i on
unfoldable pub pairs : List ℤ → List ℤ → ℕ → ℕ → List ℕ
pairs xs ys i zero = []
pairs xs ys i (suc n) = bits_of 6 (step_to xs i) ∷ bits_of 6 (step_to ys i) ∷ pairs xs ys (suc i) n
