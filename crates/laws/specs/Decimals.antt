-- Numbers and texts in a header: `right` and `padded`, and a text that is stored one byte after the other. Assumes nothing.
use Rattle.std.specs.Prelude.{ℕ, zero, suc, ◌+◌, ◌-◌, ◌^◌, ◌≤◌, ◌<◌, ◌≡◌, refl, List, [], ◌∷◌, ◌++◌, eqb, length, get_or, drop, replicate}
use Rattle.std.proofs.Common.{ap, add-one, arith, eqb→eq, length-append, drop-cons}
use Rattle.std.proofs.lemmas.List.{length-replicate}
use Rattle.rules.specs.Vocabulary.{digit_at, right, padded}
use Rattle.laws.specs.Tables.{at}

one_less : (k : ℕ) → suc k - 1 ≡ k
one_less k = omega arith

-- one more element of a list, and of a repeated one
pub text-more : {A : Type 0} (s : List A) (i : ℕ) (d : A) → i < length s → drop i s ≡ (get_or s i d ∷ []) ++ drop (i + 1) s
text-more s i d h = rw add-one (drop-cons s i d h)

pub replicate_more : {A : Type 0} (k : ℕ) (a : A) → 0 < k → replicate k a ≡ (a ∷ []) ++ replicate (k - 1) a
replicate_more zero a h = absurd (omega arith)
replicate_more (suc k) a h = rw (one_less k)

-- a number with one place more
pub right-more : (k v : ℕ) → 0 < k → right k v ≡ (digit_at (k - 1) v ∷ []) ++ right (k - 1) v
unfolding right
right-more zero v h = absurd (omega arith)
right-more (suc k) v h = rw (one_less k)

pub length-right : (n v : ℕ) → length (right n v) ≡ n
unfolding right
length-right zero v = refl
length-right (suc n) v = ap suc (length-right n v)

pub length-padded : (n : ℕ) (s : List ℕ) → length s ≤ n → length (padded n s) ≡ n
unfolding padded
length-padded n s h = simp (length-append, length-replicate) (omega arith)

-- the powers of ten, as code has them
abbrev pub powers : List ℕ
powers = 1 ∷ 10 ∷ 100 ∷ 1000 ∷ 10000 ∷ 100000 ∷ 1000000 ∷ 10000000 ∷ 100000000 ∷ 1000000000 ∷ []

pub tens : (k : ℕ) → k < 10 → get_or powers k 0 ≡ 10 ^ k
tens k h = eqb→eq (get_or powers k 0) (10 ^ k) (at (λ i p. eqb p (10 ^ i)) powers 0 tt k h)
