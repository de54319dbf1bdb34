-- The turns of the loop that unpacks a list: their order, what each stores, and the numbers it meets. Assumes nothing.
use Prim.Native.Nat.{ℕ, zero, suc, ◌+◌, ◌*◌, ◌^◌, ◌≤◌, ◌<◌}
use mathlib.Core.Path.{◌≡◌, sym, ◌∙◌, ap}
use mathlib.Core.List.{List, [], ◌∷◌, map}
use mathlib.Core.WellFounded.{Acc, WellFounded}
use native.Mathlib.Omega.{arith}
use native.Mathlib.Nat.{add-zero, add-suc, suc-add, zero-add, le_of_suc-le-suc, not-suc-le-zero, lt_of_lt_of_le, lt-suc_self}
use lib.ListN.{length, get_or, set, take}
use lib.Seq.{sets}

-- done turns and turns to come, n in all
pub record Turn (n : ℕ) : Type 0 where
  pub done : ℕ
  pub coming : ℕ
  pub all : done + coming ≡ n

-- fewer are to come
abbrev pub Nearer : (n : ℕ) → Turn n → Turn n → Type 0
Nearer n u v = u.coming < v.coming

below : (n m : ℕ) (u : Turn n) → u.coming < m → Acc (Nearer n) u
below n zero u h = absurd (not-suc-le-zero h)
below n (suc m) u h = Acc.intro u (λ v k. below n m v (lt_of_lt_of_le k (le_of_suc-le-suc h)))

pub nearer-ends : (n : ℕ) → WellFounded (Nearer n)
nearer-ends n = record { apply = λ u. below n (suc u.coming) u (lt-suc_self u.coming) }

-- after the fields of the first i, that of the next one: those of the first suc i
field-from : {A B : Type 0} (f : A → B) (d : A) (l : List B) (k i : ℕ) (cs : List A) → i < length cs → set (sets l k (map f (take i cs))) (k + i) (f (get_or cs i d)) ≡ sets
    l k (map f (take (suc i) cs))
field-from f d l k i [] h = absurd (not-suc-le-zero h)
field-from {A} {B} f d l k zero (c ∷ cs) h = ap (λ (j : ℕ). set l j (f c)) (add-zero k)
field-from {A} {B} f d l k (suc i) (c ∷ cs) h =
    ap (λ (j : ℕ). set (sets (set l k (f c)) (suc k) (map f (take i cs))) j (f (get_or cs i d))) (add-suc k i ∙ sym (suc-add k i))
    ∙ field-from f d (set l k (f c)) (suc k) i cs (le_of_suc-le-suc h)

pub next_field : {A B : Type 0} (f : A → B) (d : A) (l : List B) (i : ℕ) (cs : List A) → i < length cs → set (sets l 0 (map f (take i cs))) i (f (get_or cs i d)) ≡ sets l 0
    (map f (take (suc i) cs))
next_field f d l i cs h = ap (λ (j : ℕ). set (sets l 0 (map f (take i cs))) j (f (get_or cs i d))) (sym (zero-add i)) ∙ field-from f d l 0 i cs h

pub one_on : (i : ℕ) → i + 1 ≡ suc i
one_on i = add-suc i zero ∙ ap suc (add-zero i)

-- where element i of k stands, by elements of 4 and of 12 bytes
pub byte4 : (i k : ℕ) → k * 4 < 2 ^ 63 → i < k → i * 4 < 2 ^ 64
byte4 i k h l = omega arith

pub byte12 : (i k : ℕ) → k * 12 < 2 ^ 63 → i < k → i * 12 < 2 ^ 64
byte12 i k h l = omega arith

pub counts-on : (i n : ℕ) → i < n → n < 2 ^ 64 → i + 1 < 2 ^ 64
counts-on i n l h = omega arith

pub inside : (i n m : ℕ) → i < n → n ≤ m → i < m
inside i n m l h = omega arith

pub not-all : (i k n : ℕ) → i + suc k ≡ n → i < n
not-all i k n e = omega arith
