-- A place that lies between two places of the same pixel lies in that pixel: each operation on floats keeps the order.
-- A finite float is the fraction (over - short) / den; of `over` and `short` one is 0.
use Rattle.std.proofs.Common.{◌≡◌, ℕ, zero, suc, ◌+◌, ◌-◌, ◌*◌, ◌/◌, ◌^◌, ◌<◌, ◌≤◌, Bool, true, false, cond, ◌&&◌, ◌||◌, T, eqb, ltb, ◌⊎◌, ℤ, pos, negsuc, ◌+ℤ◌, neg_ℤ, sym, refl, ap, ◌∙◌, subst, inl, inr, le_of_eq, mul-le-mul_right, mul_comm, div-lt_iff_lt-mul, add-mul, lt_of_mul-lt-mul_right, mul-lt-mul_of_pos_right, mul-pos, le-div_iff_mul-le, mul_right_comm, le_of_mul-le-mul_right, arith, lit<, eqb→eq, pow_pos, ltb-false, ltb-true, lt-ltb}
use native.Mathlib.Nat.{mul-sub, mul-mul-mul_comm}
use lib.Arith.{lt-one}
use lib.Ieee.{Float, nan, inf, fin, Format, binary64, prec, emax, low, up, down, unlike, lt, le, neg, odd, units, round, sum, add, mul, of_int, of_bits}
use lib.Ieee.Exact.{HasValue, round_exact}
use lib.Ieee.Fits.{down_pos, round_is, and_l}
use lib.Ieee.Order.{round_mono}
use lib.Ieee.Positive.{den, den_pos}
use lib.Ieee.Scale.{finite}
use Rattle.rules.specs.Thumbnails.{real, floor_of, within, pixel_at}
use Rattle.laws.specs.Tests.{by-test, false-true}

-- ---- the order

abbrev over : Float → ℕ
over nan = 0
over (inf s) = 0
over (fin false m e) = m * up e
over (fin true m e) = 0

abbrev short : Float → ℕ
short nan = 0
short (inf s) = 0
short (fin false m e) = 0
short (fin true m e) = m * up e

-- (a - b) / c ≤ (a' - b') / c'
abbrev Ordered : (a b c a' b' c' : ℕ) → Type 0
Ordered a b c a' b' c' = a * c' + b' * c ≤ a' * c + b * c'

-- x ≤ y, with -0 as 0
abbrev Upto : Float → Float → Type 0
Upto nan y = ⊥
Upto (inf true) nan = ⊥
Upto (inf true) (inf t) = Unit {0}
Upto (inf true) (fin t n d) = Unit {0}
Upto (inf false) nan = ⊥
Upto (inf false) (inf t) = t ≡ false
Upto (inf false) (fin t n d) = ⊥
Upto (fin s m e) nan = ⊥
Upto (fin s m e) (inf t) = t ≡ false
Upto (fin s m e) (fin t n d) = Ordered (over (fin s m e)) (short (fin s m e)) (down e) (over (fin t n d)) (short (fin t n d)) (down d)

finite-between : (x y z : Float) → T (finite x) → T (finite z) → Upto x y → Upto y z → T (finite y)
finite-between nan y z p q h l = absurd p
finite-between (inf s) y z p q h l = absurd p
finite-between (fin s m e) nan z p q h l = absurd h
finite-between (fin s m e) (inf true) z p q h l = false-true (sym h)
finite-between (fin s m e) (inf false) nan p q h l = absurd q
finite-between (fin s m e) (inf false) (inf t) p q h l = absurd q
finite-between (fin s m e) (inf false) (fin t n d) p q h l = absurd l
finite-between (fin s m e) (fin t n d) z p q h l = tt

ordered : (x y : Float) → T (finite x) → T (finite y) → Upto x y → Ordered (over x) (short x) (den x) (over y) (short y) (den y)
ordered nan y p q h = absurd p
ordered (inf s) y p q h = absurd p
ordered (fin s m e) nan p q h = absurd q
ordered (fin s m e) (inf t) p q h = absurd q
ordered (fin s m e) (fin t n d) p q h = h

-- ---- what `round` makes: a number with its sign

abbrev Signed : Bool → Float → Type 0
Signed s nan = ⊥
Signed s (inf t) = t ≡ s
Signed s (fin t m e) = t ≡ s

odd-signed : (d : ℕ) (s : Bool) (q k l : ℕ) → Signed s (odd d s q k l)
unfolding odd
odd-signed d s zero k l = refl
odd-signed d s (suc q) k l = refl

odd-neg : (d q k l : ℕ) → odd d true q k l ≡ neg (odd d false q k l)
unfolding odd neg
odd-neg d zero k l = refl
odd-neg d (suc q) k l = refl

cond-signed : (b s : Bool) (x : Float) → Signed s x → Signed s (cond b x (inf s))
cond-signed true s x h = h
cond-signed false s x h = refl

cond-neg : (b : Bool) (x y : Float) → x ≡ neg y → cond b x (inf true) ≡ neg (cond b y (inf false))
unfolding neg
cond-neg true x y h = h
cond-neg false x y h = refl

abbrev small : Format → ℕ → ℕ → Bool
small f q k = ltb (q * 2 ^ k) (2 ^ (low f + suc (emax f)))

units-signed : (f : Format) (s : Bool) (q k : ℕ) → Signed s (units f s q k)
unfolding units
units-signed f s q k = cond-signed (small f q k) s _ (odd-signed (suc (prec f)) s q k (low f))

units-neg : (f : Format) (q k : ℕ) → units f true q k ≡ neg (units f false q k)
unfolding units
units-neg f q k = cond-neg (small f q k) _ _ (odd-neg (suc (prec f)) q k (low f))

round-signed : (f : Format) (s : Bool) (a c : ℕ) → Signed s (round f s a c)
round-signed f s a c = subst (Signed s) (sym (round_is f s a c)) (units-signed f s _ _)

round-neg : (f : Format) (a c : ℕ) → round f true a c ≡ neg (round f false a c)
round-neg f a c = round_is f true a c ∙ units-neg f _ _ ∙ ap neg (sym (round_is f false a c))

-- ---- the order of two such numbers

lt-or-eq : (a b : ℕ) → T (ltb a b || (eqb a b && true)) → a ≤ b
lt-or-eq a b t = by-test (ltb a b) (λ e. omega (arith, ltb-true a b e)) (λ e. le_of_eq (eqb→eq a b (and_l (eqb a b) true (rw e at t))))

le-upto : (x y : Float) → Signed false x → Signed false y → T (le x y) → Upto x y × Upto (neg y) (neg x)
unfolding le neg
le-upto nan y p q h = absurd p
le-upto (inf true) y p q h = false-true (sym p)
le-upto (inf false) nan p q h = absurd q
le-upto (inf false) (inf true) p q h = false-true (sym q)
le-upto (inf false) (inf false) p q h = (refl, tt)
le-upto (inf false) (fin t n d) p q h = absurd h
le-upto (fin true m e) y p q h = false-true (sym p)
le-upto (fin false m e) nan p q h = absurd q
le-upto (fin false m e) (inf true) p q h = false-true (sym q)
le-upto (fin false m e) (inf false) p q h = (refl, tt)
le-upto (fin false m e) (fin true n d) p q h = false-true (sym q)
le-upto (fin false m e) (fin false n d) p q h =
    let l : m * up e * down d ≤ n * up d * down e = lt-or-eq _ _ h in
    (omega arith, omega arith)

neg-upto : (x y : Float) → Signed false x → Signed false y → Upto (neg x) y
unfolding neg
neg-upto nan y p q = absurd p
neg-upto (inf true) y p q = false-true (sym p)
neg-upto (inf false) nan p q = absurd q
neg-upto (inf false) (inf t) p q = tt
neg-upto (inf false) (fin t n d) p q = tt
neg-upto (fin true m e) y p q = false-true (sym p)
neg-upto (fin false m e) nan p q = absurd q
neg-upto (fin false m e) (inf t) p q = q
neg-upto (fin false m e) (fin true n d) p q = false-true (sym q)
neg-upto (fin false m e) (fin false n d) p q = omega arith

sub-mul : (a b c : ℕ) → (a - b) * c ≡ a * c - b * c
sub-mul a b c = rw (mul_comm (a - b) c, mul_comm a c, mul_comm b c) (mul-sub c a b)

nothing : (a c d : ℕ) → 0 < c → a * c ≡ 0 * d → a ≡ 0
nothing zero c d h e = refl
nothing (suc a) c d h e = absurd (omega (arith, mul-le-mul_right {m = 1} {n = suc a} c (omega arith)))

zero-upto : (x y : Float) (c d : ℕ) → 0 < c → 0 < d → HasValue x false 0 c → HasValue y true 0 d → Upto x y
zero-upto nan y c d C D p q = absurd p
zero-upto (inf s) y c d C D p q = absurd p
zero-upto (fin true m e) y c d C D p q = false-true (sym p.0)
zero-upto (fin false m e) nan c d C D p q = absurd q
zero-upto (fin false m e) (inf t) c d C D p q = absurd q
zero-upto (fin false m e) (fin false n i) c d C D p q = false-true q.0
zero-upto (fin false m e) (fin true n i) c d C D p q =
    omega (arith, ap (λ (z : ℕ). z * down i) (nothing (m * up e) c (down e) C p.1), ap (λ (z : ℕ). z * down e) (nothing (n * up i) d (down i) D q.1))

round-zero : (f : Format) (s : Bool) (c : ℕ) → 0 < c → HasValue (round f s 0 c) s 0 c
round-zero f s c C = round_exact f s 0 c 0 0 C (pow_pos (prec f)) (pow_pos (low f + suc (emax f))) (omega arith)

-- ---- the rounded value of (a - b) / c, where a zero may have either sign

abbrev Rounds : Format → Float → ℕ → ℕ → ℕ → Type 0
Rounds f x a b c = ((b ≤ a) × (x ≡ round f false (a - b) c)) ⊎ ((a ≤ b) × (x ≡ round f true (b - a) c))

rounds-as : (f : Format) (x : Float) (a b c a' b' : ℕ) → a ≡ a' → b ≡ b' → Rounds f x a b c → Rounds f x a' b' c
rounds-as f x a b c a' b' p q h = rw (← p, ← q) h

module _ (f : Format) (a b c a' b' c' : ℕ) (C : 0 < c) (C' : 0 < c') (h : Ordered a b c a' b' c') where
  both-over : b ≤ a → b' ≤ a' → Upto (round f false (a - b) c) (round f false (a' - b') c')
  both-over p q =
      (le-upto _ _ (round-signed f false (a - b) c) (round-signed f false (a' - b') c')
      (round_mono f (a - b) c (a' - b') c' C C' (simp sub-mul (omega arith)))).0

  both-short : a ≤ b → a' ≤ b' → Upto (round f true (b - a) c) (round f true (b' - a') c')
  both-short p q =
      rw (round-neg f (b - a) c, round-neg f (b' - a') c')
      (le-upto _ _ (round-signed f false (b' - a') c') (round-signed f false (b - a) c)
      (round_mono f (b' - a') c' (b - a) c C' C (simp sub-mul (omega arith)))).1

  short-over : Upto (round f true (b - a) c) (round f false (a' - b') c')
  short-over = rw (round-neg f (b - a) c) (neg-upto _ _ (round-signed f false (b - a) c) (round-signed f false (a' - b') c'))

  -- both are zero
  over-short : b ≤ a → a' ≤ b' → Upto (round f false (a - b) c) (round f true (b' - a') c')
  over-short p q =
      let u : a - b ≡ 0 = nothing (a - b) c' 0 C' (rw sub-mul (omega (arith, mul-le-mul_right c' p, mul-le-mul_right c q))) in
      let v : b' - a' ≡ 0 = nothing (b' - a') c 0 C (rw sub-mul (omega (arith, mul-le-mul_right c' p, mul-le-mul_right c q))) in
      rw (u, v) (zero-upto (round f false 0 c) (round f true 0 c') c c' C C' (round-zero f false c C) (round-zero f true c' C'))

  rounds-upto : (x y : Float) → Rounds f x a b c → Rounds f y a' b' c' → Upto x y
  rounds-upto x y (inl r) (inl s) = rw (r.1, s.1) (both-over r.0 s.0)
  rounds-upto x y (inl r) (inr s) = rw (r.1, s.1) (over-short r.0 s.0)
  rounds-upto x y (inr r) (inl s) = rw (r.1, s.1) short-over
  rounds-upto x y (inr r) (inr s) = rw (r.1, s.1) (both-short r.0 s.0)

-- ---- the sum and the product

mul-ordered : (a b c a' b' c' n d : ℕ) → Ordered a b c a' b' c' → Ordered (a * n) (b * n) (c * d) (a' * n) (b' * n) (c' * d)
mul-ordered a b c a' b' c' n d h =
    omega (arith, mul-mul-mul_comm a n c' d, mul-mul-mul_comm b' n c d, mul-mul-mul_comm a' n c d, mul-mul-mul_comm b n c' d, simp add-mul at (mul-le-mul_right (n * d) h))

add-ordered : (a b c a' b' c' p q d : ℕ) → Ordered a b c a' b' c'
    → Ordered (a * d + p * c) (b * d + q * c) (c * d) (a' * d + p * c') (b' * d + q * c') (c' * d)
add-ordered a b c a' b' c' p q d h =
    let x = mul-mul-mul_comm a d c' d in
    let x' = mul-mul-mul_comm a' d c d in
    let y = mul-mul-mul_comm b d c' d in
    let y' = mul-mul-mul_comm b' d c d in
    simp add-mul (omega (arith, mul-mul-mul_comm p c c' d, mul-mul-mul_comm q c' c d, simp add-mul at (mul-le-mul_right (d * d) h)))

mul-rounds : (f : Format) (x : Float) (n : ℕ) (d : ℤ) → T (finite x) → Rounds f (mul f x (fin false n d)) (over x * (n * up d)) (short x * (n * up d)) (den x * down d)
unfolding mul
mul-rounds f nan n d h = absurd h
mul-rounds f (inf s) n d h = absurd h
mul-rounds f (fin false m e) n d h = inl (omega arith, ap (λ (z : ℕ). round f false z (down e * down d)) (omega arith))
mul-rounds f (fin true m e) n d h = inr (omega arith, ap (λ (z : ℕ). round f true z (down e * down d)) (omega arith))

module _ (f : Format) (a b c : ℕ) where
  sum_over : Rounds f (sum f false a false b c) (a + b) 0 c
  unfolding sum
  sum_over = inl (omega arith, ap (λ (z : ℕ). round f false z c) (omega arith))

  sum-short : Rounds f (sum f true a true b c) 0 (a + b) c
  unfolding sum
  sum-short = inr (omega arith, ap (λ (z : ℕ). round f true z c) (omega arith))

  over-sum : Rounds f (sum f false a true b c) a b c
  unfolding sum
  over-sum = by-test (ltb a b) (λ e. rw e (inr (omega (arith, ltb-true a b e), refl))) (λ e. rw e (inl (ltb-false a b e, refl)))

  short-sum : Rounds f (sum f true a false b c) b a c
  unfolding sum
  short-sum =
      by-test (ltb a b)
      (λ e. rw e (inl (omega (arith, ltb-true a b e), refl)))
      (λ e. by-test (ltb b a)
      (λ g. rw (e, g) (inr (ltb-false a b e, refl)))
      (λ g. rw (e, g) (inl (ltb-false b a g, ap (λ (z : ℕ). round f false z c) (omega (arith, ltb-false a b e, ltb-false b a g))))))

add_rounds : (f : Format) (x y : Float) → T (finite x) → T (finite y)
    → Rounds f (add f x y) (over x * den y + over y * den x) (short x * den y + short y * den x) (den x * den y)
unfolding add
add_rounds f nan y p q = absurd p
add_rounds f (inf s) y p q = absurd p
add_rounds f (fin s m e) nan p q = absurd q
add_rounds f (fin s m e) (inf t) p q = absurd q
add_rounds f (fin false m e) (fin false n d) p q = rounds-as f _ _ _ _ _ _ (omega arith) (omega arith) (sum_over f (m * up e * down d) (n * up d * down e) (down e * down d))
add_rounds f (fin false m e) (fin true n d) p q = rounds-as f _ _ _ _ _ _ (omega arith) (omega arith) (over-sum f (m * up e * down d) (n * up d * down e) (down e * down d))
add_rounds f (fin true m e) (fin false n d) p q = rounds-as f _ _ _ _ _ _ (omega arith) (omega arith) (short-sum f (m * up e * down d) (n * up d * down e) (down e * down d))
add_rounds f (fin true m e) (fin true n d) p q = rounds-as f _ _ _ _ _ _ (omega arith) (omega arith) (sum-short f (m * up e * down d) (n * up d * down e) (down e * down d))

-- by a factor that is not negative
mul-upto : (f : Format) (x x' y : Float) → T (finite x) → T (finite x') → T (finite y) → Signed false y → Upto x x' → Upto (mul f x y) (mul f x' y)
mul-upto f x x' nan p p' q s h = absurd q
mul-upto f x x' (inf t) p p' q s h = absurd q
mul-upto f x x' (fin true n d) p p' q s h = false-true (sym s)
mul-upto f x x' (fin false n d) p p' q s h =
    rounds-upto f _ _ _ _ _ _ (mul-pos (den_pos x) (down_pos d)) (mul-pos (den_pos x') (down_pos d))
    (mul-ordered (over x) (short x) (den x) (over x') (short x') (den x') (n * up d) (down d) (ordered x x' p p' h))
    _ _ (mul-rounds f x n d p) (mul-rounds f x' n d p')

add-upto : (f : Format) (x x' y : Float) → T (finite x) → T (finite x') → T (finite y) → Upto x x' → Upto (add f x y) (add f x' y)
add-upto f x x' y p p' q h =
    rounds-upto f _ _ _ _ _ _ (mul-pos (den_pos x) (den_pos y)) (mul-pos (den_pos x') (den_pos y))
    (add-ordered (over x) (short x) (den x) (over x') (short x') (den x') (over y) (short y) (den y) (ordered x x' p p' h))
    _ _ (add_rounds f x y p q) (add_rounds f x' y p' q)

-- what they are made of where they are finite
add-finite : (f : Format) (x y : Float) → T (finite (add f x y)) → T (finite x) × T (finite y)
unfolding add
add-finite f nan y h = absurd h
add-finite f (inf s) nan h = absurd h
add-finite f (inf true) (inf true) h = absurd h
add-finite f (inf true) (inf false) h = absurd h
add-finite f (inf false) (inf true) h = absurd h
add-finite f (inf false) (inf false) h = absurd h
add-finite f (inf s) (fin t n d) h = absurd h
add-finite f (fin s m e) nan h = absurd h
add-finite f (fin s m e) (inf t) h = absurd h
add-finite f (fin s m e) (fin t n d) h = (tt, tt)

never-finite {ℓ} : {X : Type ℓ} (b s : Bool) → T (finite (cond b nan (inf s))) → X
never-finite true s h = absurd h
never-finite false s h = absurd h

mul-finite : (f : Format) (x y : Float) → T (finite (mul f x y)) → T (finite x) × T (finite y)
unfolding mul
mul-finite f nan y h = absurd h
mul-finite f (inf s) nan h = absurd h
mul-finite f (inf s) (inf t) h = absurd h
mul-finite f (inf s) (fin t n d) h = never-finite (eqb n 0) (unlike s t) h
mul-finite f (fin s m e) nan h = absurd h
mul-finite f (fin s m e) (inf t) h = never-finite (eqb m 0) (unlike s t) h
mul-finite f (fin s m e) (fin t n d) h = (tt, tt)

-- ---- integers

abbrev overℤ : ℤ → ℕ
overℤ (pos n) = n
overℤ (negsuc n) = 0

abbrev shortℤ : ℤ → ℕ
shortℤ (pos n) = 0
shortℤ (negsuc n) = suc n

less_none : (n : ℕ) → n ≡ n - 0
less_none n = omega arith

real-rounds : (z : ℤ) → Rounds binary64 (real z) (overℤ z) (shortℤ z) 1
unfolding of_int
real-rounds (pos n) = inl (omega arith, ap (λ (z : ℕ). round binary64 false z 1) (less_none n))
real-rounds (negsuc n) = inr (omega arith, ap (λ (z : ℕ). round binary64 true z 1) (less_none (suc n)))

later : (z : ℤ) (k : ℕ) → overℤ (z +ℤ pos k) + shortℤ z ≡ overℤ z + k + shortℤ (z +ℤ pos k)
later (pos a) k = omega arith
later (negsuc a) k =
    by-test (ltb k (suc a))
    (λ e. rw e (omega (arith, ltb-true k (suc a) e)))
    (λ e. rw e (omega (arith, ltb-false k (suc a) e)))

real-upto : (z w : ℤ) → overℤ z + shortℤ w ≤ overℤ w + shortℤ z → Upto (real z) (real w)
real-upto z w h = rounds-upto binary64 _ _ 1 _ _ 1 (lit< tt) (lit< tt) (omega arith) _ _ (real-rounds z) (real-rounds w)

-- ---- the pixel as two tests

-- from p to before p + 1
abbrev At : Float → ℕ → Type 0
At x p = (p * den x + short x ≤ over x) × (over x < (p + 1) * den x + short x)

off : (q p : ℕ) → within (neg_ℤ (pos q)) ≡ p → p < 48 → (q ≡ 0) × (p ≡ 0)
unfolding within
off zero p h l = (refl, sym h)
off (suc q) p h l = absurd (omega arith)

pixel-is : (x : Float) (p : ℕ) → within (floor_of x) ≡ p → p < 48 → T (finite x) × At x p
unfolding within floor_of
pixel-is nan p h l = absurd (omega arith)
pixel-is (inf s) p h l = absurd (omega arith)
pixel-is (fin false m e) p h l =
    by-test (ltb (m * up e / down e) 48)
    (λ t. let q : m * up e / down e ≡ p = rw t at h in
    let a : p * down e ≤ m * up e = (le-div_iff_mul-le (down_pos e)).0 (le_of_eq (sym q)) in
    let b : m * up e < (p + 1) * down e = (div-lt_iff_lt-mul (down_pos e)).0 (omega arith) in
    (tt, (omega arith, omega arith)))
    (λ t. let q : 48 ≡ p = rw t at h in absurd (omega arith))
pixel-is (fin true m e) p h l =
    let o = off ((m * up e + (down e - 1)) / down e) p h l in
    let a : m * up e + (down e - 1) < 1 * down e = (div-lt_iff_lt-mul (down_pos e)).0 (omega arith) in
    let u : p * down e ≡ 0 * down e = ap (λ (z : ℕ). z * down e) o.1 in
    let v : (p + 1) * down e ≡ 1 * down e = ap (λ (z : ℕ). (z + 1) * down e) o.1 in
    (tt, (omega arith, omega (arith, down_pos e)))

is-pixel : (x : Float) (p : ℕ) → T (finite x) → p < 48 → At x p → within (floor_of x) ≡ p
unfolding within floor_of
is-pixel nan p t l h = absurd t
is-pixel (inf s) p t l h = absurd t
is-pixel (fin false m e) p t l h =
    let a : p ≤ m * up e / down e = (le-div_iff_mul-le (down_pos e)).1 (omega arith) in
    let b : m * up e / down e < p + 1 = (div-lt_iff_lt-mul (down_pos e)).1 (omega arith) in
    let q : m * up e / down e ≡ p = omega arith in
    rw (q, lt-ltb p 48 l)
is-pixel (fin true m e) p t l h =
    let q : (m * up e + (down e - 1)) / down e < 1 = (div-lt_iff_lt-mul (down_pos e)).1 (omega (arith, down_pos e)) in
    rw (lt-one q) (sym (nothing p (down e) 0 (down_pos e) (omega arith)))

module _ (a b c a' b' c' p : ℕ) (h : Ordered a b c a' b' c') where
  not-before : 0 < c → p * c + b ≤ a → p * c' + b' ≤ a'
  not-before C l =
      let u : p * c * c' + b * c' ≤ a * c' = rw add-mul at (mul-le-mul_right c' l) in
      le_of_mul-le-mul_right (rw add-mul (omega (arith, mul_right_comm p c c'))) C

  before : 0 < c → a' < p * c' + b' → a < p * c + b
  before C l =
      let u : a' * c < p * c' * c + b' * c = rw add-mul at (mul-lt-mul_of_pos_right l C) in
      lt_of_mul-lt-mul_right c' (rw add-mul (omega (arith, mul_right_comm p c c')))

at-between : (x y z : Float) (p : ℕ) → T (finite x) → T (finite y) → T (finite z) → Upto x y → Upto y z → At x p → At z p → At y p
at-between x y z p a b c h l u v = (
  not-before (over x) (short x) (den x) (over y) (short y) (den y) p (ordered x y a b h) (den_pos x) u.0,
  before (over y) (short y) (den y) (over z) (short z) (den z) (p + 1) (ordered y z b c l) (den_pos y) v.1,
)

-- ---- the law

above_zero : (y : Float) → lt (of_bits binary64 0) y ≡ true → Signed false y
unfolding lt of_bits
above_zero nan h = false-true h
above_zero (inf true) h = false-true h
above_zero (inf false) h = refl
above_zero (fin true m e) h = false-true h
above_zero (fin false m e) h = refl

pub between-pixels : (scale t : Float) (z : ℤ) (k m p : ℕ) → lt (of_bits binary64 0) scale ≡ true → k ≤ m → p < 48
    → pixel_at z scale t ≡ p → pixel_at (z +ℤ pos m) scale t ≡ p → pixel_at (z +ℤ pos k) scale t ≡ p
between-pixels scale t z k m p s l b h g =
    let f = binary64 in
    let x = real z in
    let y = real (z +ℤ pos k) in
    let w = real (z +ℤ pos m) in
    let sign = above_zero scale s in
    let hx = pixel-is (add f (mul f x scale) t) p h b in
    let hw = pixel-is (add f (mul f w scale) t) p g b in
    let ax = add-finite f (mul f x scale) t hx.0 in
    let aw = add-finite f (mul f w scale) t hw.0 in
    let mx = mul-finite f x scale ax.0 in
    let mw = mul-finite f w scale aw.0 in
    let xy : Upto x y = real-upto z (z +ℤ pos k) (omega (arith, later z k)) in
    let yw : Upto y w = real-upto (z +ℤ pos k) (z +ℤ pos m) (omega (arith, later z k, later z m)) in
    let fy = finite-between x y w mx.0 mw.0 xy yw in
    let xy' = mul-upto f x y scale mx.0 fy mx.1 sign xy in
    let yw' = mul-upto f y w scale fy mw.0 mx.1 sign yw in
    let fy' = finite-between (mul f x scale) (mul f y scale) (mul f w scale) ax.0 aw.0 xy' yw' in
    let xy'' = add-upto f (mul f x scale) (mul f y scale) t ax.0 fy' ax.1 xy' in
    let yw'' = add-upto f (mul f y scale) (mul f w scale) t fy' aw.0 ax.1 yw' in
    let fy'' = finite-between (add f (mul f x scale) t) (add f (mul f y scale) t) (add f (mul f w scale) t) hx.0 hw.0 xy'' yw'' in
    is-pixel (add f (mul f y scale) t) p fy'' b
    (at-between (add f (mul f x scale) t) (add f (mul f y scale) t) (add f (mul f w scale) t) p hx.0 fy'' hw.0 xy'' yw'' hx.1 hw.1)
