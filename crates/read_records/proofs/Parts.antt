-- Two, three and four elements in front of what stands behind them in a list. Assumes nothing.
use Prim.Native.Nat.{ℕ, ◌+◌, ◌<◌}
use mathlib.Core.Path.{◌≡◌, refl, ap, ◌∙◌}
use mathlib.Core.List.{List, ◌∷◌}
use native.Mathlib.Omega.{arith}
use lib.ListN.{length, get_or, drop}
use Rattle.laws.specs.Listing.{list-more}

next : (s : List ℕ) (i j : ℕ) → j ≡ i + 1 → i < length s → drop i s ≡ get_or s i 0 ∷ drop j s
next s i j e h = list-more s 0 i h ∙ rw e

module _ (s : List ℕ) (i : ℕ) where
  pub drop-two : i + 1 < length s → drop i s ≡ get_or s i 0 ∷ get_or s (i + 1) 0 ∷ drop (i + 2) s
  drop-two h = next s i (i + 1) refl (omega arith) ∙ ap (λ (t : List ℕ). get_or s i 0 ∷ t) (next s (i + 1) (i + 2) (omega arith) h)

  pub drop-three : i + 2 < length s → drop i s ≡ get_or s i 0 ∷ get_or s (i + 1) 0 ∷ get_or s (i + 2) 0 ∷ drop (i + 3) s
  drop-three h = drop-two (omega arith) ∙ ap (λ (t : List ℕ). get_or s i 0 ∷ get_or s (i + 1) 0 ∷ t) (next s (i + 2) (i + 3) (omega arith) h)

  pub drop-four : i + 3 < length s → drop i s ≡ get_or s i 0 ∷ get_or s (i + 1) 0 ∷ get_or s (i + 2) 0 ∷ get_or s (i + 3) 0 ∷ drop (i + 4) s
  drop-four h =
      drop-three (omega arith)
      ∙ ap (λ (t : List ℕ). get_or s i 0 ∷ get_or s (i + 1) 0 ∷ get_or s (i + 2) 0 ∷ t) (next s (i + 3) (i + 4) (omega arith) h)
