-- Runs and blocks at a count that is not 0, and the cells and counts of any. Assumes nothing.
use Prim.Native.Nat.{ℕ, zero, suc, ◌+◌, ◌*◌, ◌≤◌}
use mathlib.Core.Path.{◌≡◌, refl, sym}
use mathlib.Core.List.{[], ◌∷◌}
use native.Mathlib.Numerals.{add-one}
use native.Mathlib.Omega.{arith}
use lib.IntN.{ℤ}
use lib.ListN.{length}
use Rattle.rules.specs.Answers.{start_of, run_of, block_of, points_after, begun_after}
use Rattle.rules.specs.Limits.{block_cells_of}
use Rattle.read_builder.specs.Builders.{some, added, opening}

-- a run is open: it has n points
pub record InRun (n : ℕ) : Type 0 where
  pub after : points_after n ≡ n + 1
  pub begun : (m : ℕ) → begun_after n m ≡ m
  pub start : (x y : ℤ) → start_of n x y ≡ []
  pub run : run_of n ≡ n ∷ []
  pub one : some n ≡ 1
  pub adds : added n ≡ 1
  pub opens : opening n ≡ 0

pub in-run : (n : ℕ) → (n ≡ 0 → ⊥) → InRun n
unfolding points_after begun_after start_of run_of
in-run zero h = absurd (h refl)
in-run (suc n) h = record { after = sym (add-one (suc n)); begun = λ m. refl; start = λ x y. refl; run = refl; one = refl; adds = refl; opens = refl }

-- a block of m runs
pub listed : (c : ℕ → ℕ) (k m : ℕ) → (m ≡ 0 → ⊥) → block_of c k m ≡ k ∷ c k ∷ m ∷ []
unfolding block_of
listed c k zero h = absurd (h refl)
listed c k (suc m) h = refl

-- its colour is that of its number
pub own-colour : (c : ℕ → ℕ) (k m : ℕ) → block_of (λ j. c k) k m ≡ block_of c k m
unfolding block_of
own-colour c k zero = refl
own-colour c k (suc m) = refl

pub run_cells : (n : ℕ) → length (run_of n) ≡ some n
unfolding run_of
run_cells zero = refl
run_cells (suc n) = refl

pub block_cells : (c : ℕ → ℕ) (k m : ℕ) → length (block_of c k m) ≡ block_cells_of * some m
unfolding block_of
block_cells c k zero = refl
block_cells c k (suc m) = refl

pub point-cells : (n : ℕ) (x y : ℤ) → length (start_of n x y) + 2 ≡ 2 * added n
unfolding start_of
point-cells zero x y = refl
point-cells (suc n) x y = refl

-- a stitch leaves a run open
pub added-after : (n : ℕ) → added (points_after n) ≡ 1
unfolding points_after
added-after zero = refl
added-after (suc n) = refl

-- a stitch adds a point, and one more where it opens a run
pub record Opening (n : ℕ) : Type 0 where
  pub least : opening n ≤ 1
  pub after : points_after n ≡ n + 1 + opening n
  pub begun : (m : ℕ) → begun_after n m ≡ m + opening n
  pub adds : (m : ℕ) → m + added n ≡ m + 1 + opening n

pub may-open : (n : ℕ) → Opening n
unfolding points_after begun_after
may-open zero = record { least = omega arith; after = refl; begun = λ m. omega arith; adds = λ m. omega arith }
may-open (suc n) = record { least = omega arith; after = omega arith; begun = λ m. omega arith; adds = λ m. omega arith }

-- how far one stitch can take the counts, with n points in the open run and m runs begun
pub record Sizes (n m : ℕ) : Type 0 where
  pub one : some n ≤ 1
  pub two : added n ≤ 2
  pub least : 1 ≤ added n
  pub after : points_after n ≤ n + 2
  pub begun : begun_after n m ≤ m + 1
  pub opens : some (begun_after n m) + some n ≤ some m + some (points_after n)

pub sizes : (n m : ℕ) → Sizes n m
unfolding points_after begun_after
sizes zero m = omega arith
sizes (suc n) m = omega arith
