-- Laws of the number that digits make. Assumes nothing.
use Rattle.std.specs.Prelude.{Option, Some, None}
use Prim.Native.Nat.{ℕ, ◌+◌, ◌-◌, ◌*◌, ◌≤◌, ◌<◌}
use mathlib.Core.Bool.{Bool, true, false, ◌&&◌, not}
use mathlib.Core.List.{List, [], ◌∷◌}
use mathlib.Core.Path.{◌≡◌, refl, sym, ◌∙◌}
use native.Mathlib.Omega.{arith}
use borrow.Author.Tests.{leb-true, leb-false, le-leb, lt-leb, eq-eqb, ne_eqb}
use lib.Dec.{leb, eqb}
use lib.IntN.{ℤ}
use lib.ListN.{length, get_or, take, drop, drop_of_length-le}
use lib.Seq.{take_all}
use Rattle.rules.specs.Text.{begins}
use Rattle.rules.specs.Vocabulary.{pick, all, same_bytes}
use Rattle.laws.specs.Decimals.{text-more}
use Rattle.laws.specs.Tests.{by-test, and_left, and_right, and-no-right, pick-false}
use Rattle.command_line.specs.Numbers.{is_digit, decimal_from, digits_up_to, from_zero, below_zero, number_in}

-- the number only grows
grows : (n : ℕ) (s : List ℕ) → n ≤ decimal_from n s
unfolding decimal_from
grows n [] = omega arith
grows n (d ∷ ds) = omega (arith, grows (10 * n + (d - 0x30)) ds)

-- an answer of either kind tells its test
picked : (b : Bool) (d : ℕ) {n : ℕ} {r : Option ℕ} → r ≡ pick b (Some d) None → r ≡ Some n → (b ≡ true) × (n ≡ d)
picked true d e f = (refl, cc)
picked false d e f = let z : ◌≡◌ {A = ℕ} 0 1 = cc in absurd (omega arith)

picked-not : (b : Bool) (d : ℕ) {r : Option ℕ} → r ≡ pick b (Some d) None → r ≡ None → b ≡ false
picked-not true d e f = let z : ◌≡◌ {A = ℕ} 0 1 = cc in absurd (omega arith)
picked-not false d e f = refl

-- ---- a loop over a text: the number of bytes behind n, if they are digits and it is up to `most`

unfoldable pub told : ℕ → ℕ → List ℕ → Option ℕ
told most n s = pick (all is_digit s && leb (decimal_from n s) most) (Some (decimal_from n s)) None

-- one byte d behind n, as code makes it
abbrev with : ℕ → ℕ → ℕ
with n d = 10 * n + (d - 0x30)

abbrev one : ℕ → ℕ → ℕ → Option ℕ
one most n d = pick (is_digit d && leb (with n d) most) (Some (with n d)) None

module _ (most n d : ℕ) (ds : List ℕ) {r : Option ℕ} (e : r ≡ one most n d) where
  one_more : {m : ℕ} → r ≡ Some m → (m ≤ most) × (told most m ds ≡ told most n (d ∷ ds))
  unfolding told all decimal_from
  one_more f =
      let p = picked (is_digit d && leb (with n d) most) (with n d) e f in
      (omega (arith, p.1, leb-true (with n d) most (and_right (is_digit d) _ p.0)), rw (p.1, and_left (is_digit d) _ p.0))

  one-wrong : r ≡ None → None ≡ told most n (d ∷ ds)
  unfolding told all decimal_from
  one-wrong f = by-test (is_digit d)
      (λ p.
      let q : leb (with n d) most ≡ false = rw p at (picked-not (is_digit d && leb (with n d) most) (with n d) e f) in
      let g : most < decimal_from (with n d) ds = omega (arith, leb-false (with n d) most q, grows (with n d) ds) in
      sym (pick-false _ _ (and-no-right (is_digit d && all is_digit ds) _ (lt-leb _ _ g))))
      (λ p. rw p)

-- what the loop is to answer
abbrev pub answer : ℕ → List ℕ → Option ℕ
answer most s = pick (digits_up_to most s) (Some (decimal_from 0 s)) None

module _ (most : ℕ) (s : List ℕ) where
  pub answer-none : length s ≡ 0 → None ≡ answer most s
  unfolding digits_up_to
  answer-none e = rw (eq-eqb (length s) 0 e)

  -- the first i bytes make n
  pub record Made (i n : ℕ) : Type 0 where
    pub inside : i ≤ length s
    pub small : n ≤ most
    pub whole : told most n (drop i s) ≡ answer most s

  pub made-start : (length s ≡ 0 → ⊥) → Made 0 0
  unfolding told digits_up_to
  made-start l = record { inside = omega arith; small = omega arith; whole = rw (ne_eqb (length s) 0 l) }

  module _ {i n : ℕ} (h : Made i n) where
    pub made_more : i < length s → {r : Option ℕ} {m : ℕ} → r ≡ one most n (get_or s i 0) → r ≡ Some m → Made (i + 1) m
    made_more l e f =
        let o = one_more most n (get_or s i 0) (drop (i + 1) s) e f in
        record { inside = omega arith; small = o.0; whole = o.1 ∙ rw (text-more s i 0 l) at h.whole }

    pub made-wrong : i < length s → {r : Option ℕ} → r ≡ one most n (get_or s i 0) → r ≡ None → None ≡ answer most s
    made-wrong l e f = one-wrong most n (get_or s i 0) (drop (i + 1) s) e f ∙ rw (text-more s i 0 l) at h.whole

    pub made_all : length s ≤ i → Some n ≡ answer most s
    unfolding told all decimal_from
    made_all l = rw (drop_of_length-le s l, le-leb n most h.small) at h.whole

-- ---- what a caller makes of the answer

module _ (most : ℕ) (s : List ℕ) {r : Option ℕ} (e : r ≡ answer most s) where
  pub made-small : {n : ℕ} → r ≡ Some n → n ≤ most
  unfolding digits_up_to
  made-small f =
      let p = picked (digits_up_to most s) (decimal_from 0 s) e f in
      let l = and_right (all is_digit s) _ (and_right (not (eqb (length s) 0)) _ p.0) in
      omega (arith, p.1, leb-true (decimal_from 0 s) most l)

  module _ (sign : ℕ → ℤ) where
    pub made-number : {n : ℕ} → r ≡ Some n → Some (sign n) ≡ pick (digits_up_to most s) (Some (sign (decimal_from 0 s))) None
    made-number f = let p = picked (digits_up_to most s) (decimal_from 0 s) e f in rw (p.0, p.1)

    pub made_none : r ≡ None → None ≡ pick (digits_up_to most s) (Some (sign (decimal_from 0 s))) None
    made_none f = rw (picked-not (digits_up_to most s) (decimal_from 0 s) e f)

-- ---- the sign

pub number-none : (s : List ℕ) → length s ≡ 0 → None ≡ number_in s
unfolding number_in begins same_bytes from_zero digits_up_to
number-none [] e = refl
number-none (b ∷ s) e = absurd (omega arith)

pub number-below : (s : List ℕ) → 0 < length s → get_or s 0 0 ≡ 0x2D → below_zero (take (length s - 1) (drop 1 s)) ≡ number_in s
unfolding number_in begins same_bytes
number-below [] l e = absurd (omega arith)
number-below (b ∷ s) l e = rw (take_all (length (b ∷ s) - 1) s (omega arith), eq-eqb b 0x2D e)

pub number-from : (s : List ℕ) → 0 < length s → (get_or s 0 0 ≡ 0x2D → ⊥) → from_zero s ≡ number_in s
unfolding number_in begins same_bytes
number-from [] l e = absurd (omega arith)
number-from (b ∷ s) l e = rw (ne_eqb b 0x2D e)
