-- What lies in a cell: the floors of such a place are the cell's column and row, and a pixel painted twice is painted once.
use Prim.Native.Nat.{ℕ, zero, suc, ◌+◌, ◌*◌, ◌/◌, ◌%◌, ◌^◌, ◌≤◌, ◌<◌, max}
use mathlib.Core.Path.{◌≡◌, refl, sym, ap, ◌∙◌}
use mathlib.Core.Bool.{Bool, true, false, ◌&&◌}
use mathlib.Core.List.{List, [], ◌∷◌}
use native.Mathlib.Nat.{zero-mul, lt_of_lt_of_le, div-lt_iff_lt-mul, le-div_iff_mul-le, mul-one, add-mul, mul_right_comm, mul-lt-mul_of_pos_right, mul-le-mul_right}
use native.Mathlib.Omega.{arith}
use borrow.Author.Tests.{ltb-true, ltb-false, lt-ltb, le-ltb}
use lib.Arith.{bin_ind}
use lib.Bits.{bit_or, or_step, or_self, or_shr}
use lib.Dec.{ltb, lit<, lit≤}
use lib.IntN.{pos}
use lib.Ieee.{Float, nan, inf, fin, binary64, up, down, low, lt, of_int, of_bits}
use lib.Ieee.Exact.{HasValue, round_exact}
use lib.Ieee.Fits.{down_pos}
use lib.ListN.{get_or, set}
use lib.Pow.{shl_lt}
use Rattle.rules.specs.Vocabulary.{pick}
use Rattle.rules.specs.Thumbnails.{real, f1, floor_of, within, pixel}
use Rattle.laws.specs.Tests.{by-test, false-true}
use Rattle.thumbnails.specs.Cells.{is_in, no_cell, Covers, Seen}
use Rattle.thumbnails.specs.declared.Cell.{Cell}
use Rattle.thumbnail_scale.proofs.Floors.{minus-zero}

-- ---- a float below a whole number

-- x < n
under : Float → ℕ → Bool
under nan n = false
under (inf s) n = s
under (fin false m e) n = ltb (m * up e) (n * down e)
under (fin true m e) n = ltb 0 (m * up e + n * down e)

-- both sides times d
ltb-times : (a b d : ℕ) → 0 < d → ltb (a * d) (b * d) ≡ ltb a b
ltb-times a b d h =
    by-test (ltb a b)
    (λ e. lt-ltb _ _ (mul-lt-mul_of_pos_right (ltb-true a b e) h) ∙ sym e)
    (λ e. le-ltb _ _ (mul-le-mul_right d (ltb-false a b e)) ∙ sym e)

-- from k * u = n * d to any factor
across : (k u n d e : ℕ) → k * u * 1 ≡ n * d → k * u * e ≡ n * e * d
across k u n d e h = ap (λ (z : ℕ). z * e) (sym (mul-one (k * u)) ∙ h) ∙ mul_right_comm n d e

lt-under : (x y : Float) (n : ℕ) → HasValue y false n 1 → lt x y ≡ under x n
unfolding lt under
lt-under x nan n v = absurd v
lt-under x (inf t) n v = absurd v
lt-under x (fin true k d) n v = false-true (sym v.0)
lt-under nan (fin false k d) n v = refl
lt-under (inf s) (fin false k d) n v = refl
lt-under (fin false m e) (fin false k d) n v = rw (across k (up d) n (down d) (down e) v.1) (ltb-times (m * up e) (n * down e) (down d) (down_pos d))
lt-under (fin true m e) (fin false k d) n v =
    rw (across k (up d) n (down d) (down e) v.1, ← add-mul (m * up e) (n * down e) (down d)) (rw zero-mul at (ltb-times 0 (m * up e + n * down e) (down d) (down_pos d)))

-- a small number is a float
whole_is : (n : ℕ) → n < 64 → HasValue (real (pos n)) false n 1
unfolding of_int
whole_is n h = round_exact binary64 false n 1 n (low binary64) (lit< tt) (omega arith) (shl_lt 1024 (low binary64) (lt_of_lt_of_le h (lit≤ tt))) (sym (mul-one _))

-- ---- the floor by two tests

-- from n to before n + 1
floor-is : (x : Float) (n : ℕ) → n < 48 → under x n ≡ false → under x (n + 1) ≡ true → within (floor_of x) ≡ n
unfolding within floor_of under
floor-is nan n h p q = false-true q
floor-is (inf true) n h p q = false-true (sym p)
floor-is (inf false) n h p q = false-true q
floor-is (fin false m e) n h p q =
    let a : n ≤ m * up e / down e = (le-div_iff_mul-le (down_pos e)).1 (ltb-false _ _ p) in
    let b : m * up e / down e < n + 1 = (div-lt_iff_lt-mul (down_pos e)).1 (ltb-true _ _ q) in
    let f : m * up e / down e ≡ n = omega arith in
    rw (f, lt-ltb n 48 h)
floor-is (fin true m e) zero h p q = minus-zero (m * up e) (down e) (omega (arith, ltb-false 0 (m * up e + 0 * down e) p)) (down_pos e)
floor-is (fin true m e) (suc n) h p q = absurd (omega (arith, mul-le-mul_right {m = 1} {n = suc n} (down e) (omega arith), down_pos e, ltb-false 0 (m * up e + suc n * down e) p))

-- never from 1 to before 0
never-in : (x : Float) → under x 1 ≡ false → under x 0 ≡ true → ⊥
unfolding under
never-in nan p q = false-true q
never-in (inf true) p q = false-true (sym p)
never-in (inf false) p q = false-true q
never-in (fin false m e) p q = omega (arith, ltb-true (m * up e) (0 * down e) q)
never-in (fin true m e) p q = omega (arith, down_pos e, ltb-false 0 (m * up e + 1 * down e) p)

-- ---- the cells

-- the four tests of a place that lies in a cell
four : (p q r s : Bool) → pick p false (pick q false (pick r s false)) ≡ true → ((p ≡ false) × (r ≡ true)) × ((q ≡ false) × (s ≡ true))
four true q r s h = false-true h
four false true r s h = false-true h
four false false false s h = false-true h
four false false true s h = ((refl, refl), (refl, h))

tests : (c : Cell) (a b : Float) → is_in c a b ≡ true → ((lt a c.left ≡ false) × (lt a c.right ≡ true)) × ((lt b c.top ≡ false) × (lt b c.bottom ≡ true))
unfolding is_in
tests c a b = four (lt a c.left) (lt b c.top) (lt a c.right) (lt b c.bottom)

-- no place lies in the empty cell
none : {c : Cell} (a b : Float) → c ≡ no_cell → is_in c a b ≡ true → ⊥
unfolding of_bits
none a b e h =
    let t = (tests no_cell a b (rw e at h)).0 in
    never-in a (sym (lt-under a f1 1 (refl, refl)) ∙ t.0) (sym (lt-under a (of_bits binary64 0) 0 (refl, refl)) ∙ t.1)

pub none-covers : {c : Cell} (x y : ℕ) → c ≡ no_cell → Covers c x y
none-covers x y e a b h = absurd (none a b e h)

pub seen_none : {c : Cell} (icon : List ℕ) → c ≡ no_cell → Seen c icon
seen_none icon e a b h = absurd (none a b e h)

-- the same as a cell tests it
between : (a : Float) (n : ℕ) → n < 48 → lt a (real (pos n)) ≡ false → lt a (real (pos (n + 1))) ≡ true → within (floor_of a) ≡ n
between a n h p q = floor-is a n h (sym (lt-under a (real (pos n)) n (whole_is n (omega arith))) ∙ p) (sym (lt-under a (real (pos (n + 1))) (n + 1) (whole_is (n + 1) (omega arith))) ∙ q)

pub cell-covers : (x y : ℕ) → x < 48 → y < 48 → Covers (record { left = real (pos x); right = real (pos (x + 1)); top = real (pos y); bottom = real (pos (y + 1)) }) x y
cell-covers x y h l a b i =
    let t = tests _ a b i in
    (between a x h t.0.0 t.0.1, between b y l t.1.0 t.1.1)

-- ---- a pixel painted twice

digit-again : (x q u v : ℕ) → u < 2 → v < 2 → x ≡ q * 2 + max u v → q * 2 + max (x % 2) v ≡ x
digit-again x q u v h l e = omega arith

or-again : (a b : ℕ) → bit_or (bit_or a b) b ≡ bit_or a b
or-again =
    bin_ind (λ (n : ℕ). (b : ℕ) → bit_or (bit_or n b) b ≡ bit_or n b) or_self
    (λ n ih b. or_step (bit_or n b) b
    ∙ ap (λ (z : ℕ). z * 2 + max (bit_or n b % 2) (b % 2)) (ap (λ (z : ℕ). bit_or z (b / 2)) (or_shr n b 1) ∙ ih (b / 2))
    ∙ digit-again (bit_or n b) (bit_or (n / 2) (b / 2)) (n % 2) (b % 2) (omega arith) (omega arith) (or_step n b))

set-again : (l : List ℕ) (i p : ℕ) → let l' = set l i (bit_or (get_or l i 0) p) in set l' i (bit_or (get_or l' i 0) p) ≡ l'
set-again [] i p = refl
set-again (x ∷ l) zero p = ap (λ (v : ℕ). v ∷ l) (or-again x p)
set-again (x ∷ l) (suc i) p = ap (λ (r : List ℕ). x ∷ r) (set-again l i p)

pixel-again : (icon : List ℕ) (x y : ℕ) → pixel (pixel icon x y) x y ≡ pixel icon x y
unfolding pixel
pixel-again icon x y =
    by-test (ltb x 48 && (ltb 0 y && ltb y 38))
    (λ t. rw t (set-again icon (y * 6 + x / 8) (2 ^ (x % 8))))
    (λ t. rw t)

pub seen-new : (c : Cell) (icon : List ℕ) (x y : ℕ) → Covers c x y → Seen c (pixel icon x y)
seen-new c icon x y k a b h = rw ((k a b h).0, (k a b h).1) (pixel-again icon x y)
