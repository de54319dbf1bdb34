-- A rule of the numbers below n, or of the entries of a table, by one test that antt computes.
-- Assumes nothing.
use Rattle.std.specs.Prelude.{ℕ, zero, suc, ◌+◌, ◌<◌, Bool, true, ◌&&◌, List, [], ◌∷◌, T, length, get_or}
use Rattle.std.proofs.Common.{subst, add-zero, zero-add, add-suc, suc-add, arith}
use Rattle.std.proofs.Math.Decide.{dec_lt}
use Rattle.std.proofs.Math.Facts.{and_yes}

-- the test f passes at 0, .., n - 1
abbrev pub below : (ℕ → Bool) → ℕ → Bool
below f zero = true
below f (suc n) = f n && below f n

-- `checked f n tt k h` is T (f k)
pub checked : (f : ℕ → Bool) (n : ℕ) → T (below f n) → (k : ℕ) → k < n → T (f k)
checked f zero t k h = absurd (omega arith)
checked f (suc n) t k h = elim (dec_lt k n) [
  | yes l ↦ checked f n (and_yes (f n) (below f n) t).1 k l
  | no l ↦ subst (λ (m : ℕ). T (f m)) (omega arith) (and_yes (f n) (below f n) t).0
]

module _ {A : Type 0} (f : ℕ → A → Bool) where
  -- the test f passes at each entry and its place, counted from i
  abbrev pub every : ℕ → List A → Bool
  every i [] = true
  every i (x ∷ xs) = f i x && every (suc i) xs

  from : (xs : List A) (d : A) (i : ℕ) → T (every i xs) → (k : ℕ) → k < length xs → T (f (i + k) (get_or xs k d))
  from [] d i t k h = absurd (omega arith)
  from (x ∷ xs) d i t zero h = rw add-zero (and_yes (f i x) (every (suc i) xs) t).0
  from (x ∷ xs) d i t (suc k) h = rw (add-suc, ← suc-add) (from xs d (suc i) (and_yes (f i x) (every (suc i) xs) t).1 k (omega arith))

  -- `at f xs d tt k h` is T (f k (get_or xs k d))
  pub at : (xs : List A) (d : A) → T (every 0 xs) → (k : ℕ) → k < length xs → T (f k (get_or xs k d))
  at xs d t k h = rw zero-add at (from xs d 0 t k h)
