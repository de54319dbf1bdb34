-- The sums that the Rust works out in f64 and turns into f32, 350 + 1300 / 2 - width / 2 and 100 + height + 1800 / 2 - height / 2, are
-- the matrix fields for
-- every width and height up to 32000: no operation of theirs rounds. Assumes nothing.
use Prim.Native.Nat.{ℕ, suc, ◌+◌, ◌-◌, ◌*◌, ◌^◌, ◌≤◌, ◌<◌}
use mathlib.Core.Path.{◌≡◌, refl, sym, ap, ◌∙◌, subst}
use mathlib.Core.Bool.{Bool, true, false}
use native.Mathlib.Nat.{mul_assoc, mul-one, mul-pos, mul_right_comm, add-mul, zero-lt-suc, lt_of_lt_of_le}
use native.Mathlib.Omega.{arith}
use borrow.Author.Tests.{ltb-true, ltb-false, lt-ltb, le-ltb}
use lib.Dec.{lit<, lit≤, ltb}
use lib.Pow.{shl_lt}
use lib.IntN.{pos, negsuc, ◌-ℤ◌}
use lib.Ieee.{Float, nan, inf, fin, binary32, binary64, up, down, round, sum, add, sub, neg, div, of_int}
use lib.Ieee.Back.{round_whole}
use lib.Ieee.Exact.{HasValue, round_exact}
use lib.Ieee.Fits.{down_pos}
use lib.Ieee.Scale.{round_same}
use Rattle.rules.specs.Pes.{halves}
use Rattle.laws.specs.Tests.{by-test}
use Rattle.laws.specs.Ints.{sub-law, parts}

-- ---- the Rust's sums

-- a whole number as an f64
abbrev pub whole : ℕ → Float
whole n = of_int binary64 (pos n)

-- an f64 as an f32: the nearest one
abbrev pub narrowed : Float → Float
narrowed nan = nan
narrowed (inf s) = inf s
narrowed (fin s m e) = round binary32 s (m * up e) (down e)

abbrev pub sum_x : ℕ → Float
sum_x w = narrowed (sub binary64 (add binary64 (whole 350) (div binary64 (whole 1300) (whole 2))) (div binary64 (whole w) (whole 2)))

abbrev pub sum_y : ℕ → Float
sum_y h = narrowed (sub binary64 (add binary64 (add binary64 (whole 100) (whole h)) (div binary64 (whole 1800) (whole 2))) (div binary64 (whole h) (whole 2)))

-- ---- values in halves

value : (s : Bool) (n : ℕ) → n < 2 ^ 53 → HasValue (round binary64 s n 2) s n 2
value s n h = round_exact binary64 s n 2 n 1073 (lit< tt) h (lt_of_lt_of_le (shl_lt 53 1073 h) (lit≤ tt)) (sym (mul_assoc n (2 ^ 1073) 2))

by_value : {x : Float} (s : Bool) (n : ℕ) → n < 2 ^ 53 → x ≡ round binary64 s n 2 → HasValue x s n 2
by_value s n h e = subst (λ (y : Float). HasValue y s n 2) (sym e) (value s n h)

whole-value : (n : ℕ) → n < 2 ^ 53 → HasValue (whole n) false n 1
unfolding of_int
whole-value n h = round_whole binary64 false n (omega arith)

doubled : (x : Float) (n : ℕ) → HasValue x false n 1 → HasValue x false (n * 2) 2
doubled nan n h = absurd h
doubled (inf s) n h = absurd h
doubled (fin s m e) n h = (h.0, ap (λ (k : ℕ). k * 2) (sym (mul-one (m * up e)) ∙ h.1) ∙ mul_right_comm n (down e) 2)

in_halves : (n : ℕ) → n < 2 ^ 53 → HasValue (whole n) false (n * 2) 2
in_halves n h = doubled (whole n) n (whole-value n h)

-- ---- half of a whole number

two_is : whole 2 ≡ fin false 1 (pos 1)
unfolding of_int
two_is = refl

over-two : (x : Float) (n : ℕ) → HasValue x false n 1 → div binary64 x (fin false 1 (pos 1)) ≡ round binary64 false n 2
unfolding div
over-two nan n h = absurd h
over-two (inf s) n h = absurd h
over-two (fin s m e) n h =
    rw h.0
    (round_same binary64 false (m * up e * 1) (2 * down e) n 2 (mul-pos (lit< tt) (down_pos e)) (lit< tt)
    (ap (λ (k : ℕ). k * 2) h.1 ∙ mul_right_comm n (down e) 2 ∙ mul_assoc n 2 (down e)))

half-value : (n : ℕ) → n < 2 ^ 53 → HasValue (div binary64 (whole n) (whole 2)) false n 2
half-value n h = rw two_is (by_value false n h (over-two (whole n) n (whole-value n h)))

-- ---- a sum and a difference

-- of two fractions with C below the line, which are a / 2 and b / 2
module _ (A B C a b : ℕ) (p : A * 2 ≡ a * C) (q : B * 2 ≡ b * C) (c : 0 < C) where
  sum_is : sum binary64 false A false B C ≡ round binary64 false (a + b) 2
  unfolding sum
  sum_is = round_same binary64 false (A + B) C (a + b) 2 c (lit< tt) (omega (arith, add-mul a b C))

  more-is : (k : ℕ) → a ≡ k + b → sum binary64 false A true B C ≡ round binary64 false k 2
  unfolding sum
  more-is k e =
      let g : A * 2 ≡ k * C + B * 2 = p ∙ ap (λ (n : ℕ). n * C) e ∙ add-mul k b C ∙ rw (← q) in
      rw (le-ltb A B (omega arith)) (round_same binary64 false (A - B) C k 2 c (lit< tt) (omega arith))

  less-is : (k : ℕ) → b ≡ suc k + a → sum binary64 false A true B C ≡ round binary64 true (suc k) 2
  unfolding sum
  less-is k e =
      let g : B * 2 ≡ suc k * C + A * 2 = q ∙ ap (λ (n : ℕ). n * C) e ∙ add-mul (suc k) a C ∙ rw (← p) in
      let l : 0 < suc k * C = mul-pos (zero-lt-suc k) c in
      rw (lt-ltb A B (omega arith)) (round_same binary64 true (B - A) C (suc k) 2 c (lit< tt) (omega arith))

grown : (m a e d : ℕ) → m * 2 ≡ a * e → m * d * 2 ≡ a * (e * d)
grown m a e d h = mul_right_comm m d 2 ∙ ap (λ (k : ℕ). k * d) h ∙ mul_assoc a e d

turned : (m a e d : ℕ) → m * 2 ≡ a * e → m * d * 2 ≡ a * (d * e)
turned m a e d h = mul_right_comm m d 2 ∙ ap (λ (k : ℕ). k * d) h ∙ mul_right_comm a e d ∙ mul_assoc a d e

plus-is : (x y : Float) (a b : ℕ) → HasValue x false a 2 → HasValue y false b 2 → add binary64 x y ≡ round binary64 false (a + b) 2
unfolding add
plus-is nan y a b h l = elim h [ ]
plus-is (inf _) y a b h l = elim h [ ]
plus-is (fin s m e) nan a b h l = elim l [ ]
plus-is (fin s m e) (inf _) a b h l = elim l [ ]
plus-is (fin s m e) (fin t n d) a b h l =
    rw (h.0, l.0)
    (sum_is (m * up e * down d) (n * up d * down e) (down e * down d) a b (grown (m * up e) a (down e) (down d) h.1) (turned (n * up d) b (down d) (down e) l.1)
    (mul-pos (down_pos e) (down_pos d)))

minus_is : (x y : Float) (a b k : ℕ) → HasValue x false a 2 → HasValue y false b 2 → a ≡ k + b → sub binary64 x y ≡ round binary64 false k 2
unfolding sub add neg
minus_is nan y a b k h l g = elim h [ ]
minus_is (inf _) y a b k h l g = elim h [ ]
minus_is (fin s m e) nan a b k h l g = elim l [ ]
minus_is (fin s m e) (inf _) a b k h l g = elim l [ ]
minus_is (fin s m e) (fin t n d) a b k h l g =
    rw (h.0, l.0)
    (more-is (m * up e * down d) (n * up d * down e) (down e * down d) a b (grown (m * up e) a (down e) (down d) h.1) (turned (n * up d) b (down d) (down e) l.1)
    (mul-pos (down_pos e) (down_pos d)) k g)

short-is : (x y : Float) (a b k : ℕ) → HasValue x false a 2 → HasValue y false b 2 → b ≡ suc k + a → sub binary64 x y ≡ round binary64 true (suc k) 2
unfolding sub add neg
short-is nan y a b k h l g = elim h [ ]
short-is (inf _) y a b k h l g = elim h [ ]
short-is (fin s m e) nan a b k h l g = elim l [ ]
short-is (fin s m e) (inf _) a b k h l g = elim l [ ]
short-is (fin s m e) (fin t n d) a b k h l g =
    rw (h.0, l.0)
    (less-is (m * up e * down d) (n * up d * down e) (down e * down d) a b (grown (m * up e) a (down e) (down d) h.1) (turned (n * up d) b (down d) (down e) l.1)
    (mul-pos (down_pos e) (down_pos d)) k g)

plus-value : (x y : Float) (a b : ℕ) → a + b < 2 ^ 53 → HasValue x false a 2 → HasValue y false b 2 → HasValue (add binary64 x y) false (a + b) 2
plus-value x y a b h p q = by_value false (a + b) h (plus-is x y a b p q)

-- ---- as an f32

narrow-is : (x : Float) (s : Bool) (n : ℕ) → n < 2 ^ 53 → x ≡ round binary64 s n 2 → narrowed x ≡ round binary32 s n 2
narrow-is x s n h e = go x (by_value s n h e)
  where
    go : (y : Float) → HasValue y s n 2 → narrowed y ≡ round binary32 s n 2
    go nan v = elim v [ ]
    go (inf _) v = elim v [ ]
    go (fin t m e) v = rw v.0 (round_same binary32 s (m * up e) (down e) n 2 (down_pos e) (lit< tt) v.1)

-- ---- the fields

left : Float
left = add binary64 (whole 350) (div binary64 (whole 1300) (whole 2))

left-value : HasValue left false 2000 2
unfolding left
left-value = plus-value (whole 350) (div binary64 (whole 1300) (whole 2)) 700 1300 (lit< tt) (in_halves 350 (lit< tt)) (half-value 1300 (lit< tt))

pub same-x : (w : ℕ) → w ≤ 32000 → sum_x w ≡ halves (pos 2000 -ℤ pos w)
unfolding halves left
same-x w l =
    let y = div binary64 (whole w) (whole 2) in
    by-test (ltb 2000 w)
    (λ t. let k : ℕ = w - 2001 in
    let u : 2000 < w = ltb-true 2000 w t in
    narrow-is (sub binary64 left y) true (suc k) (omega arith) (short-is left y 2000 w k left-value (half-value w (omega arith)) (omega arith))
    ∙ ap halves (sym (parts (pos 2000 -ℤ pos w) (negsuc k) (omega (arith, sub-law (pos 2000) (pos w))))))
    (λ t. let k : ℕ = 2000 - w in
    let u : w ≤ 2000 = ltb-false 2000 w t in
    narrow-is (sub binary64 left y) false k (omega arith) (minus_is left y 2000 w k left-value (half-value w (omega arith)) (omega arith))
    ∙ ap halves (sym (parts (pos 2000 -ℤ pos w) (pos k) (omega (arith, sub-law (pos 2000) (pos w))))))

pub same-y : (h : ℕ) → h ≤ 32000 → sum_y h ≡ halves (pos (2000 + h))
unfolding halves
same-y h l =
    let x = add binary64 (whole 100) (whole h) in
    let z = add binary64 x (div binary64 (whole 1800) (whole 2)) in
    let p : HasValue x false (200 + h * 2) 2 = plus-value (whole 100) (whole h) 200 (h * 2) (omega arith) (in_halves 100 (lit< tt)) (in_halves h (omega arith)) in
    let q : HasValue z false (200 + h * 2 + 1800) 2 = plus-value x (div binary64 (whole 1800) (whole 2)) (200 + h * 2) 1800 (omega arith) p (half-value 1800 (lit< tt)) in
    narrow-is (sub binary64 z (div binary64 (whole h) (whole 2))) false (2000 + h) (omega arith)
    (minus_is z (div binary64 (whole h) (whole 2)) (200 + h * 2 + 1800) h (2000 + h) q (half-value h (omega arith)) (omega arith))
