-- Commands of one kind that follow each other: by one more, two rows as one, and the run that they are a part of. Assumes nothing.
use Prim.Native.Nat.{ℕ, zero, suc, ◌+◌, ◌≤◌}
use mathlib.Core.Path.{◌≡◌, ap, ◌∙◌}
use mathlib.Core.List.{List}
use native.Mathlib.Omega.{arith}
use borrow.Author.Tests.{ltb-true, ltb-false}
use lib.Dec.{ltb}
use lib.IntN.{ℤ}
use lib.ListN.{length, drop, get_or}
use Rattle.rules.specs.Lists.{commands}
use Rattle.rules.specs.Pes.{run_length}
use Rattle.rules.specs.declared.Cmd.{Cmd}
use Rattle.laws.specs.Tests.{by-test}
use Rattle.pes_sections.specs.Alike.{Alike}
use Rattle.pes_sections.proofs.Runs.{run_more}

module _ (ks : List ℕ) (kind i : ℕ) where
  pub alike-none : Alike ks kind i i
  alike-none k a b = absurd (omega arith)

  pub alike-join : (j m : ℕ) → Alike ks kind i j → Alike ks kind j m → Alike ks kind i m
  alike-join j m v w k a b = by-test (ltb k j) (λ e. v k a (ltb-true k j e)) (λ e. w k (ltb-false k j e) b)

  pub alike-more : (j : ℕ) → Alike ks kind i j → get_or ks j 0 ≡ kind → Alike ks kind i (j + 1)
  alike-more j w e = alike-join j (j + 1) w (λ k a b. ap (λ (n : ℕ). get_or ks n 0) (omega arith) ∙ e)

module _ (xs ys : List ℤ) (ks : List ℕ) (kind : ℕ) where
  abbrev cs : List Cmd
  cs = commands xs ys ks

  -- where the run ends, from behind a part of it
  pub alike-run : (n i j : ℕ) → j ≡ i + n → j ≤ length cs → Alike ks kind i j → j + run_length kind (drop j cs) ≡ i + run_length kind (drop i cs)
  alike-run zero i j e l w = ap (λ (m : ℕ). m + run_length kind (drop m cs)) (omega arith)
  alike-run (suc n) i j e l w =
      alike-run n (i + 1) j (omega arith) l (λ k a b. w k (omega arith) b)
      ∙ omega (arith, run_more xs ys ks i kind (omega arith) (w i (omega arith) (omega arith)))
