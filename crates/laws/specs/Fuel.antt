-- A recursion by fuel does not depend on the fuel where there is enough of it. Assumes nothing.
use Prim.Native.Nat.{ℕ, zero, suc, ◌<◌}
use Rattle.std.specs.Prelude.{◌≡◌}
use Rattle.std.proofs.Common.{arith}
use Rattle.rules.specs.Vocabulary.{fuelled}

-- `looks`: body f x depends on f at what is smaller than x alone
module _ {X R : Type 0} (size : X → ℕ) (body : (X → R) → X → R) (none : R)
    (looks : (f g : X → R) (x : X) → ((y : X) → size y < size x → f y ≡ g y) → body f x ≡ body g x) where
  pub enough : (m n : ℕ) (x : X) → size x < m → size x < n → fuelled body none m x ≡ fuelled body none n x
  unfolding fuelled
  enough zero n x h l = absurd (omega arith)
  enough (suc m) zero x h l = absurd (omega arith)
  enough (suc m) (suc n) x h l = looks (fuelled body none m) (fuelled body none n) x (λ y s. enough m n y (omega arith) (omega arith))

  -- one step, after which each smaller one has fuel of its own
  pub fuelled-step : (n : ℕ) (x : X) → size x < n → fuelled body none n x ≡ body (λ y. fuelled body none (suc (size y)) y) x
  unfolding fuelled
  fuelled-step zero x h = absurd (omega arith)
  fuelled-step (suc n) x h = looks (fuelled body none n) (λ y. fuelled body none (suc (size y)) y) x (λ y s. enough n (suc (size y)) y (omega arith) (omega arith))
