-- An entry fits a byte; the entries of the threads passed, and black's behind them. Assumes nothing.
use Rattle.std.specs.Prelude.{Some, None, Option}
use Prim.Native.Nat.{ℕ, ◌+◌, ◌≤◌, ◌<◌}
use mathlib.Core.Path.{◌≡◌, refl, sym, ap, ◌∙◌}
use mathlib.Core.Bool.{true}
use mathlib.Core.List.{List}
use native.Mathlib.Omega.{arith}
use borrow.Author.Count.{below_none, below_more}
use borrow.Author.Tests.{ltb-true, ltb-false}
use lib.Dec.{ltb}
use lib.ListN.{length, get_or, set, replicate, length-set, length-replicate, get_or-replicate, get_or-eq_default}
use lib.Seq.{get_or-set_same, get_or-set_other}
use Rattle.rules.specs.Charts.{color, pec_chart}
use Rattle.rules.specs.Choices.{nearest_index, choices, pec_palette}
use Rattle.rules.specs.Pec.{found_or}
use Rattle.rules.specs.Pes.{thread_code}
use Rattle.rules.specs.declared.Color.{Color}
use Rattle.laws.specs.Choosing.{choice-law}
use Rattle.laws.specs.Tests.{by-test}
use Rattle.pec_threads.specs.Codes.{code_of, Coded}

palette-length : length pec_palette ≡ 65
unfolding pec_palette choices pec_chart
palette-length = refl

small_at : (t : Color) (f : Option ℕ) → nearest_index t pec_palette ≡ f → found_or 1 f < 65
unfolding found_or
small_at t (Some k) e = omega (arith, (choice-law true t pec_palette k e).1.inside, palette-length)
small_at t None e = omega arith

pub code-small : (t : Color) → code_of t < 65
code-small t = small_at t (nearest_index t pec_palette) refl

pub thread-small : (ts : List Color) (i : ℕ) → thread_code ts i < 65
unfolding thread_code
thread-small ts i = code-small (get_or ts i (color 0 0 0))

-- with the threads before i passed
pub record Coding (ts : List Color) (codes : List ℕ) (i : ℕ) : Type 0 where
  pub long : length codes ≡ 256
  pub passed : (k : ℕ) → k < i → get_or codes k 0 ≡ thread_code ts k
  pub left : (k : ℕ) → i ≤ k → k < 256 → get_or codes k 0 ≡ code_of (color 0 0 0)

module _ (ts : List Color) where
  -- at first
  pub coding-start : {b : ℕ} → b ≡ code_of (color 0 0 0) → Coding ts (replicate 256 b) 0
  coding-start {b} e = record {
    long = length-replicate 256 b;
    passed = below_none _;
    left = λ k l h. get_or-replicate 256 k b 0 h ∙ e;
  }

  module _ {codes : List ℕ} {i : ℕ} (w : Coding ts codes i) where
    -- one more
    pub coding-more : {t : Color} {v : ℕ} → i < 256 → t ≡ get_or ts i (color 0 0 0) → v ≡ code_of t → Coding ts (set codes i v) (i + 1)
    unfolding thread_code
    coding-more {t} {v} l e f = record {
      long = length-set codes i v ∙ w.long;
      passed = below_more _ i (λ k h. get_or-set_other codes i k v 0 (λ g. omega arith) ∙ w.passed k h) (get_or-set_same codes i v 0 (omega (arith, w.long)) ∙ f ∙ ap code_of e);
      left = λ k g h. get_or-set_other codes i k v 0 (λ p. omega arith) ∙ w.left k (omega arith) h;
    }

    -- no more threads, or no more room
    black-at : (k : ℕ) → length ts ≤ k → code_of (color 0 0 0) ≡ thread_code ts k
    unfolding thread_code
    black-at k h = ap code_of (sym (get_or-eq_default ts (color 0 0 0) h))

    pub coding-done : ((k : ℕ) → i ≤ k → k < 256 → length ts ≤ k) → Coded ts codes
    coding-done none = record {
      long = w.long;
      code = λ k h. by-test (ltb k i)
          (λ e. w.passed k (ltb-true k i e))
          (λ e. let g = ltb-false k i e in w.left k g h ∙ black-at k (none k g h));
    }
