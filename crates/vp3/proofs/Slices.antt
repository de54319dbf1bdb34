-- The elements from one index to before another, and the last of them. Assumes nothing.
use Prim.Native.Nat.{ℕ, zero, suc, ◌+◌, ◌-◌, ◌≤◌, ◌<◌}
use mathlib.Core.Path.{◌≡◌, refl, ap, ◌∙◌}
use mathlib.Core.List.{List, [], ◌∷◌}
use native.Mathlib.Nat.{not-suc-le-zero, le_of_suc-le-suc}
use native.Mathlib.Omega.{arith}
use lib.IntN.{ℤ, pos}
use lib.ListN.{length, take, drop, get_or, length-drop}
use lib.Seq.{get_or-drop}
use Rattle.rules.specs.Lists.{commands}
use Rattle.rules.specs.Vp3.{end_x, end_y}
use Rattle.laws.specs.Listing.{list-more, cmd_at, commands-more}
use Rattle.vp3.specs.Blocks.{between, end_of}

-- ---- one more element, and no more

one_less : (i end : ℕ) → i < end → end - i ≡ suc (end - (i + 1))
one_less i end h = omega arith

none_left : (i end : ℕ) → end ≤ i → end - i ≡ 0
none_left i end h = omega arith

pub between_none : {A : Type 0} (l : List A) (i end : ℕ) → end ≤ i → between l i end ≡ []
between_none l i end h = rw (none_left i end h)

pub between_more : {A : Type 0} (l : List A) (d : A) (i end : ℕ) → i < end → end ≤ length l → between l i end ≡ get_or l i d ∷ between l (i + 1) end
between_more l d i end h k = rw (list-more l d i (omega arith), one_less i end h)

pub commands-between : (xs ys : List ℤ) (ks : List ℕ) (i end : ℕ) → i < end → end ≤ length (commands xs ys ks)
    → between (commands xs ys ks) i end ≡ cmd_at xs ys ks i ∷ between (commands xs ys ks) (i + 1) end
commands-between xs ys ks i end h k = rw (commands-more xs ys ks i (omega arith), one_less i end h)

-- ---- the last one

last-at : (z : ℤ) (l : List ℤ) (n : ℕ) → n < length l → end_of z (take (suc n) l) ≡ get_or l n (pos 0)
unfolding end_of
last-at z [] n h = absurd (not-suc-le-zero h)
last-at z (a ∷ l) zero h = refl
last-at z (a ∷ l) (suc n) h = last-at a l n (le_of_suc-le-suc h)

pub end-at : (z : ℤ) (l : List ℤ) (from end : ℕ) → from < end → end ≤ length l → end_of z (between l from end) ≡ get_or l (end - 1) (pos 0)
end-at z l from end h k =
    let n : ℕ = end - (from + 1) in
    let e : from + n ≡ end - 1 = omega arith in
    rw (one_less from end h) (last-at z (drop from l) n (omega (arith, length-drop from l)) ∙ get_or-drop from l n (pos 0) ∙ ap (λ (j : ℕ). get_or l j (pos 0)) e)

pub end_none : (z : ℤ) (l : List ℤ) (from end : ℕ) → end ≤ from → end_of z (between l from end) ≡ z
unfolding end_of
end_none z l from end h = rw (between_none l from end h)

-- ---- where commands end, told by their places

drop-commands : (i : ℕ) (xs ys : List ℤ) (ks : List ℕ) → drop i (commands xs ys ks) ≡ commands (drop i xs) (drop i ys) (drop i ks)
unfolding commands
drop-commands zero xs ys ks = refl
drop-commands (suc i) [] ys ks = refl
drop-commands (suc i) (x ∷ xs) [] ks = no-ys (drop i xs) (drop (suc i) ks)
  where
    no-ys : (xs : List ℤ) (ks : List ℕ) → [] ≡ commands xs [] ks
    no-ys [] ks = refl
    no-ys (x ∷ xs) ks = refl
drop-commands (suc i) (x ∷ xs) (y ∷ ys) [] = no-ks (drop i xs) (drop i ys)
  where
    no-ks : (xs ys : List ℤ) → [] ≡ commands xs ys []
    no-ks [] ys = refl
    no-ks (x ∷ xs) [] = refl
    no-ks (x ∷ xs) (y ∷ ys) = refl
drop-commands (suc i) (x ∷ xs) (y ∷ ys) (k ∷ ks) = drop-commands i xs ys ks

front-x : (z : ℤ) (m : ℕ) (xs ys : List ℤ) (ks : List ℕ) → m ≤ length (commands xs ys ks) → end_x z (take m (commands xs ys ks)) ≡ end_of z (take m xs)
unfolding commands end_x end_of
front-x z zero xs ys ks h = refl
front-x z (suc m) [] ys ks h = refl
front-x z (suc m) (x ∷ xs) [] ks h = absurd (not-suc-le-zero h)
front-x z (suc m) (x ∷ xs) (y ∷ ys) [] h = absurd (not-suc-le-zero h)
front-x z (suc m) (x ∷ xs) (y ∷ ys) (k ∷ ks) h = front-x x m xs ys ks (le_of_suc-le-suc h)

front-y : (z : ℤ) (m : ℕ) (xs ys : List ℤ) (ks : List ℕ) → m ≤ length (commands xs ys ks) → end_y z (take m (commands xs ys ks)) ≡ end_of z (take m ys)
unfolding commands end_y end_of
front-y z zero xs ys ks h = refl
front-y z (suc m) [] ys ks h = absurd (not-suc-le-zero h)
front-y z (suc m) (x ∷ xs) [] ks h = absurd (not-suc-le-zero h)
front-y z (suc m) (x ∷ xs) (y ∷ ys) [] h = absurd (not-suc-le-zero h)
front-y z (suc m) (x ∷ xs) (y ∷ ys) (k ∷ ks) h = front-y y m xs ys ks (le_of_suc-le-suc h)

module _ (z : ℤ) (xs ys : List ℤ) (ks : List ℕ) (from end : ℕ) (h : from ≤ end) (k : end ≤ length (commands xs ys ks)) where
  fits : end - from ≤ length (commands (drop from xs) (drop from ys) (drop from ks))
  fits = rw (← drop-commands from xs ys ks) (omega (arith, length-drop from (commands xs ys ks)))

  pub between-x : end_x z (between (commands xs ys ks) from end) ≡ end_of z (between xs from end)
  between-x = rw (drop-commands from xs ys ks) (front-x z (end - from) (drop from xs) (drop from ys) (drop from ks) fits)

  pub between-y : end_y z (between (commands xs ys ks) from end) ≡ end_of z (between ys from end)
  between-y = rw (drop-commands from xs ys ks) (front-y z (end - from) (drop from xs) (drop from ys) (drop from ks) fits)
