-- Laws for loops over a list: what is left at i is the element at i and what is left at i + 1. For any list, and for the list of commands
-- that three slices hold.
-- Assumes nothing.
use Rattle.std.specs.Prelude.{ℕ, zero, suc, ◌+◌, ◌≤◌, ◌<◌, min, ◌≡◌, refl, Bool, true, false, List, [], ◌∷◌, length, get_or, drop, ℤ, pos}
use Rattle.std.proofs.Math.Path.{sym}
use Rattle.std.proofs.Common.{ap, ◌∙◌, le_of_suc-le-suc, not-suc-le-zero, add_assoc, add-one, arith, drop_of_length-le, drop-cons}
use Rattle.rules.specs.Vocabulary.{pick, any, count}
use Rattle.rules.specs.Lists.{commands}
use Rattle.rules.specs.Promises.{xs_of, ys_of, kinds_of}
use Rattle.rules.specs.declared.Cmd.{Cmd}
use Rattle.laws.specs.Tests.{by-test}

-- one more element
pub list-more : {A : Type 0} (s : List A) (d : A) (i : ℕ) → i < length s → drop i s ≡ get_or s i d ∷ drop (i + 1) s
list-more s d i h = rw add-one (drop-cons s i d h)

-- no more
pub list-end : {A : Type 0} (s : List A) (i : ℕ) → length s ≤ i → drop i s ≡ []
list-end s i h = drop_of_length-le s {i = i} h

-- A loop that looks for an element that passes. Its invariant: `whole`, what is to be reported, is what the remaining elements give.
-- An element that passes, one that does not, and the end:
module _ {A : Type 0} (p : A → Bool) (s : List A) (d : A) (i : ℕ) {whole : Bool} (w : whole ≡ any p (drop i s)) where
  pub any-hit : i < length s → p (get_or s i d) ≡ true → true ≡ whole
  unfolding any
  any-hit h e = sym (w ∙ rw (list-more s d i h, e))

  pub any-miss : i < length s → p (get_or s i d) ≡ false → whole ≡ any p (drop (i + 1) s)
  unfolding any
  any-miss h e = w ∙ rw (list-more s d i h, e)

  pub any-end : length s ≤ i → false ≡ whole
  unfolding any
  any-end h = sym (w ∙ rw (list-end s i h))

-- a loop that counts: n so far
module _ {A : Type 0} (p : A → Bool) (s : List A) (d : A) (i n : ℕ) {whole : ℕ} (w : whole ≡ n + count p (drop i s)) where
  pub count-more : (t : Bool) → i < length s → p (get_or s i d) ≡ t → whole ≡ n + pick t 1 0 + count p (drop (i + 1) s)
  unfolding count
  count-more t h e = w ∙ rw (list-more s d i h, e, add_assoc)

  pub count-end : length s ≤ i → n ≡ whole
  unfolding count
  count-end h = sym (w ∙ rw (list-end s i h) (omega arith))

-- no more pass than there are
pub count-le : {A : Type 0} (p : A → Bool) (s : List A) → count p s ≤ length s
unfolding count
count-le p [] = omega arith
count-le p (x ∷ s) = by-test (p x) (λ t. rw t (omega (arith, count-le p s))) (λ t. rw t (omega (arith, count-le p s)))

-- ---- a list held in three slices

abbrev pub cmd_at : List ℤ → List ℤ → List ℕ → ℕ → Cmd
cmd_at xs ys ks i = record { x = get_or xs i (pos 0); y = get_or ys i (pos 0); kind = get_or ks i 0 }

abbrev pub no_cmd : Cmd
no_cmd = record { x = pos 0; y = pos 0; kind = 0 }

-- as many commands as the shortest slice has elements
pub length-commands : (xs ys : List ℤ) (ks : List ℕ) → length (commands xs ys ks) ≡ min (length xs) (min (length ys) (length ks))
unfolding commands
length-commands [] ys ks = omega arith
length-commands (x ∷ xs) [] ks = omega arith
length-commands (x ∷ xs) (y ∷ ys) [] = omega arith
length-commands (x ∷ xs) (y ∷ ys) (k ∷ ks) = omega (arith, length-commands xs ys ks)

-- the command at i is in all three slices
pub record Listed (xs ys : List ℤ) (ks : List ℕ) (i : ℕ) : Type 0 where
  pub across : i < length xs
  pub down : i < length ys
  pub kind : i < length ks

pub listed : {xs ys : List ℤ} {ks : List ℕ} {i n : ℕ} → n ≡ length (commands xs ys ks) → i < n → Listed xs ys ks i
listed {xs} {ys} {ks} e l =
    let long = length-commands xs ys ks in
    record { across = omega arith; down = omega arith; kind = omega arith }

pub commands-at : (xs ys : List ℤ) (ks : List ℕ) (i : ℕ) → i < length (commands xs ys ks) → get_or (commands xs ys ks) i no_cmd ≡ cmd_at xs ys ks i
unfolding commands
commands-at [] ys ks i h = absurd (not-suc-le-zero h)
commands-at (x ∷ xs) [] ks i h = absurd (not-suc-le-zero h)
commands-at (x ∷ xs) (y ∷ ys) [] i h = absurd (not-suc-le-zero h)
commands-at (x ∷ xs) (y ∷ ys) (k ∷ ks) zero h = refl
commands-at (x ∷ xs) (y ∷ ys) (k ∷ ks) (suc i) h = commands-at xs ys ks i (le_of_suc-le-suc h)

-- one more command
pub commands-more : (xs ys : List ℤ) (ks : List ℕ) (i : ℕ) → i < length (commands xs ys ks) → drop i (commands xs ys ks) ≡ cmd_at xs ys ks i ∷ drop (i + 1) (commands xs ys ks)
commands-more xs ys ks i h = list-more (commands xs ys ks) no_cmd i h ∙ rw (commands-at xs ys ks i h)

-- the three columns of a list of records hold that list
pub columns : (cs : List Cmd) → commands (xs_of cs) (ys_of cs) (kinds_of cs) ≡ cs
unfolding commands
columns [] = refl
columns (c ∷ cs) = ap (λ (r : List Cmd). c ∷ r) (columns cs)
