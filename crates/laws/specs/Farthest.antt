-- How far off threads are: `farthest` is the largest distance; and what was found so far, with the threads to come. Assumes nothing.
use Prim.Native.Nat.{ℕ, zero, suc, ◌<◌, ◌≤◌, max}
use Rattle.std.specs.Prelude.{◌≡◌, leb, length, get_or, None, Option}
use Rattle.std.proofs.Math.Path.{refl}
use Rattle.std.proofs.Common.{◌∙◌, le_of_suc-le-suc, not-suc-le-zero}
use mathlib.Core.List.{List, [], ◌∷◌}
use native.Mathlib.Omega.{arith}
use borrow.Author.Tests.{leb-true, leb-false}
use Rattle.rules.specs.Charts.{color}
use Rattle.rules.specs.Choices.{away, farthest}
use Rattle.rules.specs.declared.Color.{Color}
use Rattle.laws.specs.Tests.{by-test}

module _ (palette : List (Option Color)) where
  -- how far thread i is off the chart's own colour of entry i
  abbrev pub off_at : List Color → List ℕ → ℕ → ℕ
  off_at ts es i = away (get_or ts i (color 0 0 0)) (get_or palette (get_or es i 0) None)

  -- no thread is farther off
  pub far-most : (ts : List Color) (es : List ℕ) (i : ℕ) → i < length ts → i < length es → off_at ts es i ≤ farthest palette ts es
  unfolding farthest
  far-most [] es i h l = absurd (not-suc-le-zero h)
  far-most (t ∷ ts) [] i h l = absurd (not-suc-le-zero l)
  far-most (t ∷ ts) (e ∷ es) zero h l = omega arith
  far-most (t ∷ ts) (e ∷ es) (suc i) h l = omega (arith, far-most ts es i (le_of_suc-le-suc h) (le_of_suc-le-suc l))

  -- and one is as far off, unless the distance is 0
  pub data Met (ts : List Color) (es : List ℕ) : Type 0 where
    none : farthest palette ts es ≡ 0 → Met ts es
    one : (i : ℕ) → i < length ts → i < length es → farthest palette ts es ≡ off_at ts es i → Met ts es

  later : (t : Color) (ts : List Color) (e : ℕ) (es : List ℕ) → farthest palette (t ∷ ts) (e ∷ es) ≡ farthest palette ts es → Met ts es → Met (t ∷ ts) (e ∷ es)
  later t ts e es q (none p) = none (q ∙ p)
  later t ts e es q (one i h l p) = one (suc i) (omega arith) (omega arith) (q ∙ p)

  pub far-met : (ts : List Color) (es : List ℕ) → Met ts es
  unfolding farthest
  far-met [] es = none refl
  far-met (t ∷ ts) [] = none refl
  far-met (t ∷ ts) (e ∷ es) = by-test (leb (farthest palette ts es) (away t (get_or palette e None)))
      (λ y. one 0 (omega arith) (omega arith) (omega (arith, leb-true (farthest palette ts es) (away t (get_or palette e None)) y)))
      (λ y. later t ts e es (omega (arith, leb-false (farthest palette ts es) (away t (get_or palette e None)) y)) (far-met ts es))

  -- one more thread, and no more
  module _ (far : ℕ) where
    pub far-more : (t : Color) (ts : List Color) (e : ℕ) (es : List ℕ)
        → max far (farthest palette (t ∷ ts) (e ∷ es)) ≡ max (max far (away t (get_or palette e None))) (farthest palette ts es)
    unfolding farthest
    far-more t ts e es = omega arith

    pub far-end : (es : List ℕ) → max far (farthest palette [] es) ≡ far
    unfolding farthest
    far-end es = omega arith
