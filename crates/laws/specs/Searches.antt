-- Laws of tests over a list of any elements, by index, and of the first and the last place that passes. Assumes nothing.
use Prim.Native.Nat.{ℕ, zero, suc, ◌<◌, suc-le-suc}
use Rattle.std.specs.Prelude.{◌≡◌, Bool, true, false, length, get_or, Some, None}
use Rattle.std.proofs.Math.Path.{refl}
use mathlib.Core.List.{List, [], ◌∷◌}
use Rattle.std.proofs.Math.Nat.{le_of_suc-le-suc}
use Rattle.std.proofs.Common.{not-suc-le-zero, arith}
use Rattle.rules.specs.Vocabulary.{all, next, first_where, or_else, last_where}
use Rattle.laws.specs.Tests.{and_left, and_right}

-- The element at i passes the test, and those that beat it do not: those before it, or those after it.
pub record Where {A : Type 0} (beats : ℕ → ℕ → Type 0) (p : A → Bool) (d : A) (xs : List A) (i : ℕ) : Type 0 where
  pub inside : i < length xs
  pub passes : p (get_or xs i d) ≡ true
  pub others : (j : ℕ) → j < length xs → beats j i → p (get_or xs j d) ≡ false

abbrev pub before : ℕ → ℕ → Type 0
before j i = j < i

abbrev pub after : ℕ → ℕ → Type 0
after j i = i < j

-- none passes
abbrev pub Nowhere : {A : Type 0} → (A → Bool) → A → List A → Type 0
Nowhere p d xs = (j : ℕ) → j < length xs → p (get_or xs j d) ≡ false

module _ {A : Type 0} (p : A → Bool) (d : A) where
  pub all_from : (xs : List A) → ((j : ℕ) → j < length xs → p (get_or xs j d) ≡ true) → all p xs ≡ true
  unfolding all
  all_from [] h = refl
  all_from (x ∷ xs) h = rw (h 0 (omega arith)) (all_from xs (λ j l. h (suc j) (suc-le-suc l)))

  pub all-at : (xs : List A) → all p xs ≡ true → (j : ℕ) → j < length xs → p (get_or xs j d) ≡ true
  unfolding all
  all-at [] e j l = absurd (not-suc-le-zero l)
  all-at (x ∷ xs) e zero l = and_left (p x) (all p xs) e
  all-at (x ∷ xs) e (suc j) l = all-at xs (and_right (p x) (all p xs) e) j (le_of_suc-le-suc l)

  -- the first place that passes, from what is known of the places, and back
  pub first-none : (xs : List A) → Nowhere p d xs → first_where p xs ≡ None
  unfolding first_where next
  first-none [] h = refl
  first-none (x ∷ xs) h = rw (h 0 (omega arith), first-none xs (λ j l. h (suc j) (suc-le-suc l)))

  pub first-is : (xs : List A) {i : ℕ} → Where before p d xs i → first_where p xs ≡ Some i
  unfolding first_where next
  first-is [] w = absurd (not-suc-le-zero w.inside)
  first-is (x ∷ xs) {i = zero} w = rw w.passes
  first-is (x ∷ xs) {i = suc i} w =
      rw (
        w.others 0 (omega arith) (omega arith),
        first-is xs {i = i} (record { inside = le_of_suc-le-suc w.inside; passes = w.passes; others = λ j l b. w.others (suc j) (suc-le-suc l) (suc-le-suc b) }),
      )

  -- the last place that passes
  pub last_none : (xs : List A) → Nowhere p d xs → last_where p xs ≡ None
  unfolding last_where next or_else
  last_none [] h = refl
  last_none (x ∷ xs) h = rw (h 0 (omega arith), last_none xs (λ j l. h (suc j) (suc-le-suc l)))

  pub last-is : (xs : List A) {i : ℕ} → Where after p d xs i → last_where p xs ≡ Some i
  unfolding last_where next or_else
  last-is [] w = absurd (not-suc-le-zero w.inside)
  last-is (x ∷ xs) {i = zero} w = rw (last_none xs (λ j l. w.others (suc j) (suc-le-suc l) (omega arith)), w.passes)
  last-is (x ∷ xs) {i = suc i} w =
      rw (last-is xs {i = i} (record { inside = le_of_suc-le-suc w.inside; passes = w.passes; others = λ j l b. w.others (suc j) (suc-le-suc l) (suc-le-suc b) }))
