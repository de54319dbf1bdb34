-- A name in columns: what is to come of it, n bytes of those that pass the test p at most and m columns more, all filled with blanks; and
-- how it gets less.
-- Assumes nothing.
use Prim.Native.Nat.{ℕ, zero, suc, ◌+◌, ◌-◌, ◌≤◌, ◌<◌}
use Rattle.std.specs.Prelude.{◌≡◌, refl, Bool, true, false, List, [], ◌∷◌, ◌++◌, get_or, drop}
use Rattle.std.proofs.Math.Path.{ap}
use Rattle.std.proofs.Common.{arith, length-append}
use Rattle.std.proofs.Math.ListN.{length, take, replicate}
use Rattle.std.proofs.lemmas.List.{length-replicate}
use Rattle.rules.specs.Vocabulary.{keep, padded}
use Rattle.laws.specs.Listing.{list-more, list-end}

take_short : (n : ℕ) (s : List ℕ) → length (take n s) ≤ n
take_short zero s = omega arith
take_short (suc n) [] = omega arith
take_short (suc n) (x ∷ s) = omega (arith, take_short n s)

take_none : (n : ℕ) → take {A = ℕ} n [] ≡ []
take_none zero = refl
take_none (suc n) = refl

less-less : (n k : ℕ) → suc n - suc k ≡ n - k
less-less n k = omega arith

no_less : (n : ℕ) → n - 0 ≡ n
no_less n = omega arith

one_less : (n : ℕ) → suc n - 1 ≡ n
one_less n = omega arith

module _ (p : ℕ → Bool) (m : ℕ) where
  abbrev pub coming : ℕ → List ℕ → List ℕ
  coming n s = take n (keep p s) ++ replicate (m + (n - length (take n (keep p s)))) 0x20

  -- a whole name in n + m columns
  pub name-start : (n k : ℕ) (name : List ℕ) → k ≡ n + m → padded k (take n (keep p name)) ≡ coming n name
  unfolding padded
  name-start n k name e =
      let t = take n (keep p name) in
      let f : k - length t ≡ m + (n - length t) = omega (arith, take_short n (keep p name)) in
      ap (λ (j : ℕ). t ++ replicate j 0x20) f

  pub length-coming : (n : ℕ) (s : List ℕ) → length (coming n s) ≡ n + m
  length-coming n s =
      let t = take n (keep p s) in
      omega (arith, length-append t (replicate (m + (n - length t)) 0x20), length-replicate {A = ℕ} (m + (n - length t)) 0x20, take_short n (keep p s))

  -- a byte that stays
  pub name-more : (n i : ℕ) (name : List ℕ) → 0 < n → i < length name → p (get_or name i 0) ≡ true
      → coming n (drop i name) ≡ (get_or name i 0 ∷ []) ++ coming (n - 1) (drop (i + 1) name)
  unfolding keep
  name-more zero i name l h e = absurd (omega arith)
  name-more (suc n) i name l h e = rw (list-more name 0 i h, e, one_less n, less-less n (length (take n (keep p (drop (i + 1) name)))))

  -- one that does not
  pub name-skip : (n i : ℕ) (name : List ℕ) → i < length name → p (get_or name i 0) ≡ false → coming n (drop i name) ≡ coming n (drop (i + 1) name)
  unfolding keep
  name-skip n i name h e = rw (list-more name 0 i h, e)

  -- no more of the n columns, and no more bytes
  pub name-full : (n : ℕ) (s : List ℕ) → n ≡ 0 → coming n s ≡ replicate (m + 0) 0x20
  name-full n s e = rw e

  pub name-end : (n i : ℕ) (name : List ℕ) → length name ≤ i → coming n (drop i name) ≡ replicate (m + n) 0x20
  unfolding keep
  name-end n i name h = rw (list-end name i h, take_none n, no_less n)
