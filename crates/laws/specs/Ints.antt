-- Signed numbers as omega can read them. It knows natural numbers, so a signed number is given as a difference of two: `Is v p q` says
-- that v is p - q,
-- with one law for each operation, and what is known or wanted of v (equal, fitting, read back) follows from that by one law each, for
-- every operation.
-- How to use it:
--     omega ints                                            what an operation or a cast asks, an order, an equation
--     let h : SFits w32 z = fit w32 z c.f.ok in ..      where z is a result, a field or an element, of which only the type is known
--     omega (ints, seen c.fits.x)                       where that type's range is needed
-- Assumes nothing.
use Rattle.std.specs.Prelude.{ℕ, zero, suc, ◌+◌, ◌-◌, ◌*◌, ◌^◌, ◌≤◌, ◌<◌, max, min, ◌≡◌, refl, Bool, true, false, not, cond, T, ltb, leb, eqb, ℤ, pos, negsuc, neg_ℤ, ◌+ℤ◌, ◌-ℤ◌, ◌*ℤ◌, nat_abs, ◌≤ℤ◌, ◌<ℤ◌}
use Rattle.std.proofs.Common.{sym, ap, ◌∙◌, arith, mul-le-mul, ltb→lt, nltb→le, ltb-true, ltb-false, leb-true, leb-false, lt-ltb, le-ltb, eq-eqb, ne_eqb, to_z-of_z}
use Rattle.std.proofs.Math.IntN.{sub_ℕ}
use Rattle.std.specs.Int.Signed.{lt_z, le_z, mag, non_neg}
use Rattle.std.specs.Int.{Width}
use mir.Val.{SFits, Fits, hbits, bits, to_z, of_z}
use Rattle.std.proofs.Math.Facts.{sfits_widen}
use Rattle.rules.specs.Vocabulary.{eq_z, between}
use Rattle.laws.specs.Tests.{is_true, true-is, clash, by-test, and_left, and_right, and-true}

-- the part above zero and the part below it: one of them is 0
abbrev pub up : ℤ → ℕ
up (pos n) = n
up (negsuc n) = 0

abbrev pub dn : ℤ → ℕ
dn (pos n) = 0
dn (negsuc n) = suc n

abbrev pub Is : ℤ → ℕ → ℕ → Type 0
Is v p q = up v + q ≡ p + dn v

-- k + 1 bits, as contracts name it
abbrev pub InBits : ℕ → ℤ → Type 0
InBits k z = (neg_ℤ (pos (2 ^ k)) ≤ℤ z) × (z <ℤ pos (2 ^ k))

pub one0 : (z : ℤ) → min (up z) (dn z) ≡ 0
one0 (pos n) = omega arith
one0 (negsuc n) = omega arith

-- two differences that agree are one number
pub parts : (a b : ℤ) → Is a (up b) (dn b) → a ≡ b
parts (pos a) (pos b) e = ap pos (omega arith)
parts (pos a) (negsuc b) e = absurd (omega arith)
parts (negsuc a) (pos b) e = absurd (omega arith)
parts (negsuc a) (negsuc b) e = ap negsuc (omega arith)

-- ---- operations

-- one law for `sub_ℕ`, at both of its outcomes
sub_is : (a b : ℕ) → Is (sub_ℕ a b) a b
sub_is a b = go (ltb a b) (λ t. ltb→lt a b t) (λ t. nltb→le a b t)
  where
    go : (t : Bool) → (T t → a < b) → (T (not t) → b ≤ a) → Is (cond t (negsuc (b - suc a)) (pos (a - b))) a b
    go true p q = let h : a < b = p tt in omega arith
    go false p q = let h : b ≤ a = q tt in omega arith

pub add-law : (a b : ℤ) → Is (a +ℤ b) (up a + up b) (dn a + dn b)
add-law (pos a) (pos b) = omega arith
add-law (pos a) (negsuc b) = omega (arith, sub_is a (suc b))
add-law (negsuc a) (pos b) = omega (arith, sub_is b (suc a))
add-law (negsuc a) (negsuc b) = omega arith

pub up_neg : (a : ℤ) → up (neg_ℤ a) ≡ dn a
up_neg (pos zero) = refl
up_neg (pos (suc n)) = refl
up_neg (negsuc n) = refl

pub dn-neg : (a : ℤ) → dn (neg_ℤ a) ≡ up a
dn-neg (pos zero) = refl
dn-neg (pos (suc n)) = refl
dn-neg (negsuc n) = refl

pub neg-law : (a : ℤ) → Is (neg_ℤ a) (dn a) (up a)
neg-law a = omega (arith, up_neg a, dn-neg a)

pub sub-law : (a b : ℤ) → Is (a -ℤ b) (up a + dn b) (dn a + up b)
sub-law a b = omega (arith, add-law a (neg_ℤ b), up_neg b, dn-neg b)

-- by a literal
pub mul-law : (a : ℤ) (k : ℕ) → Is (a *ℤ pos k) (up a * k) (dn a * k)
mul-law (pos n) k = omega arith
mul-law (negsuc n) k = omega (arith, neg-law (pos (suc n * k)))

-- ---- orders: both tests, of the parts

leb-same : (a b c d : ℕ) → (a ≤ b → c ≤ d) → (c ≤ d → a ≤ b) → leb a b ≡ leb c d
leb-same a b c d f g = by-test (leb c d)
    (λ e. by-test (leb a b) (λ h. h ∙ sym e) (λ h. let l : a ≤ b = g (leb-true c d e) in absurd (omega (arith, leb-false a b h))))
    (λ e. by-test (leb a b) (λ h. let l : c ≤ d = f (leb-true a b h) in absurd (omega (arith, leb-false c d e))) (λ h. h ∙ sym e))

pub le_parts : (a b : ℤ) → le_z a b ≡ leb (up a + dn b) (up b + dn a)
le_parts (pos a) (pos b) = leb-same a b (a + 0) (b + 0) (λ h. omega arith) (λ h. omega arith)
le_parts (pos a) (negsuc b) = leb-same 1 0 (a + suc b) 0 (λ h. omega arith) (λ h. omega arith)
le_parts (negsuc a) (pos b) = leb-same 0 0 0 (b + suc a) (λ h. omega arith) (λ h. omega arith)
le_parts (negsuc a) (negsuc b) = leb-same b a (0 + suc b) (0 + suc a) (λ h. omega arith) (λ h. omega arith)

pub lt-parts : (a b : ℤ) → lt_z a b ≡ ltb (up a + dn b) (up b + dn a)
lt-parts (pos a) (pos b) = leb-same (suc a) b (suc (a + 0)) (b + 0) (λ h. omega arith) (λ h. omega arith)
lt-parts (pos a) (negsuc b) = leb-same 1 0 (suc (a + suc b)) 0 (λ h. omega arith) (λ h. omega arith)
lt-parts (negsuc a) (pos b) = leb-same 0 0 1 (b + suc a) (λ h. omega arith) (λ h. omega arith)
lt-parts (negsuc a) (negsuc b) = leb-same (suc b) a (suc (0 + suc b)) (0 + suc a) (λ h. omega arith) (λ h. omega arith)

-- what each outcome says, and what gives it
module _ (a b : ℤ) where
  pub le-true : le_z a b ≡ true → up a + dn b ≤ up b + dn a
  le-true e = leb-true _ _ (sym (le_parts a b) ∙ e)

  pub le-false : le_z a b ≡ false → up b + dn a < up a + dn b
  le-false e = leb-false _ _ (sym (le_parts a b) ∙ e)

  pub lt-true : lt_z a b ≡ true → up a + dn b < up b + dn a
  lt-true e = ltb-true _ _ (sym (lt-parts a b) ∙ e)

  pub lt-false : lt_z a b ≡ false → up b + dn a ≤ up a + dn b
  lt-false e = ltb-false _ _ (sym (lt-parts a b) ∙ e)

  pub true-le : up a + dn b ≤ up b + dn a → le_z a b ≡ true
  true-le h = by-test (le_z a b) (λ e. e) (λ e. absurd (omega (arith, le-false e)))

  pub false-le : up b + dn a < up a + dn b → le_z a b ≡ false
  false-le h = by-test (le_z a b) (λ e. absurd (omega (arith, le-true e))) (λ e. e)

  pub true-lt : up a + dn b < up b + dn a → lt_z a b ≡ true
  true-lt h = lt-parts a b ∙ lt-ltb _ _ h

  pub false-lt : up b + dn a ≤ up a + dn b → lt_z a b ≡ false
  false-lt h = lt-parts a b ∙ le-ltb _ _ h

  pub le_T : T (le_z a b) → up a + dn b ≤ up b + dn a
  le_T t = le-true (is_true _ t)

  pub lt_T : T (lt_z a b) → up a + dn b < up b + dn a
  lt_T t = lt-true (is_true _ t)

  pub T-le : up a + dn b ≤ up b + dn a → T (le_z a b)
  T-le h = true-is _ (true-le h)

  pub T-lt : up a + dn b < up b + dn a → T (lt_z a b)
  T-lt h = true-is _ (true-lt h)

-- ---- sizes

pub mag_is : (z : ℤ) → suc (mag z) ≡ max (suc (up z)) (dn z)
mag_is (pos n) = omega arith
mag_is (negsuc n) = omega arith

pub abs_is : (z : ℤ) → nat_abs z ≡ max (up z) (dn z)
abs_is (pos n) = omega arith
abs_is (negsuc n) = omega arith

pub abs-le : (z : ℤ) (n : ℕ) → up z ≤ n + dn z → dn z ≤ n + up z → nat_abs z ≤ n
abs-le z n h l = omega (arith, abs_is z, one0 z)

pub abs_neg : (z : ℤ) → nat_abs (neg_ℤ z) ≡ nat_abs z
abs_neg z = omega (arith, abs_is z, abs_is (neg_ℤ z), up_neg z, dn-neg z)

pub abs-add : (a b : ℤ) → nat_abs (a +ℤ b) ≤ nat_abs a + nat_abs b
abs-add a b = abs-le (a +ℤ b) (nat_abs a + nat_abs b) (omega (arith, add-law a b, abs_is a, abs_is b)) (omega (arith, add-law a b, abs_is a, abs_is b))

-- ---- what follows for v, if it is p - q: when it fits, what it reads as, when another number is the same

-- p - q is in the range of width w: both ends in one statement, since a rule of omega's concludes from one
abbrev pub Room : Width → ℕ → ℕ → Type 0
Room w p q = max (suc (2 * p)) (2 * q) ≤ 2 ^ hbits w + p + q

fits-is : {w : Width} (v : ℤ) (p q : ℕ) → Is v p q → Room w p q → SFits w v
fits-is v p q e h = record { sfits = omega (arith, mag_is v, one0 v) }

back_is : (w : Width) (v : ℤ) (p q : ℕ) → Is v p q → SFits w v → Is (to_z w (of_z w v)) p q
back_is w v p q e h = rw (to_z-of_z h) e

to_is : (z v : ℤ) (p q : ℕ) → Is v p q → Is z p q → z ≡ v
to_is z v p q e h = parts z v (omega arith)

from_is : (z v : ℤ) (p q : ℕ) → Is v p q → z ≡ v → Is z p q
from_is z v p q e h = rw h e

-- the rules of each operation
module _ (a b : ℤ) where
  pub fits-add : {w : Width} → Room w (up a + up b) (dn a + dn b) → SFits w (a +ℤ b)
  fits-add = fits-is (a +ℤ b) _ _ (add-law a b)

  pub fits_sub : {w : Width} → Room w (up a + dn b) (dn a + up b) → SFits w (a -ℤ b)
  fits_sub = fits-is (a -ℤ b) _ _ (sub-law a b)

module _ (w : Width) (a b : ℤ) where
  pub read-add : SFits w (a +ℤ b) → Is (to_z w (of_z w (a +ℤ b))) (up a + up b) (dn a + dn b)
  read-add = back_is w (a +ℤ b) _ _ (add-law a b)

  pub read-sub : SFits w (a -ℤ b) → Is (to_z w (of_z w (a -ℤ b))) (up a + dn b) (dn a + up b)
  read-sub = back_is w (a -ℤ b) _ _ (sub-law a b)

module _ (z a b : ℤ) where
  pub eq-add : Is z (up a + up b) (dn a + dn b) → z ≡ a +ℤ b
  eq-add = to_is z (a +ℤ b) _ _ (add-law a b)

  pub eq-sub : Is z (up a + dn b) (dn a + up b) → z ≡ a -ℤ b
  eq-sub = to_is z (a -ℤ b) _ _ (sub-law a b)

  pub is-add : z ≡ a +ℤ b → Is z (up a + up b) (dn a + dn b)
  is-add = from_is z (a +ℤ b) _ _ (add-law a b)

  pub is-sub : z ≡ a -ℤ b → Is z (up a + dn b) (dn a + up b)
  is-sub = from_is z (a -ℤ b) _ _ (sub-law a b)

pub fits-mul : {w : Width} (a : ℤ) (k : ℕ) → Room w (up a * k) (dn a * k) → SFits w (a *ℤ pos k)
fits-mul a k = fits-is (a *ℤ pos k) _ _ (mul-law a k)

pub read-mul : (w : Width) (a : ℤ) (k : ℕ) → SFits w (a *ℤ pos k) → Is (to_z w (of_z w (a *ℤ pos k))) (up a * k) (dn a * k)
read-mul w a k = back_is w (a *ℤ pos k) _ _ (mul-law a k)

module _ (z a : ℤ) where
  pub eq-neg : Is z (dn a) (up a) → z ≡ neg_ℤ a
  eq-neg = to_is z (neg_ℤ a) _ _ (neg-law a)

  pub is-neg : z ≡ neg_ℤ a → Is z (dn a) (up a)
  is-neg = from_is z (neg_ℤ a) _ _ (neg-law a)

  pub eq-mul : (k : ℕ) → Is z (up a * k) (dn a * k) → z ≡ a *ℤ pos k
  eq-mul k = to_is z (a *ℤ pos k) _ _ (mul-law a k)

  pub is_mul : (k : ℕ) → z ≡ a *ℤ pos k → Is z (up a * k) (dn a * k)
  is_mul k = from_is z (a *ℤ pos k) _ _ (mul-law a k)

-- the rules of a number alone
pub fits-parts : {w : Width} (z : ℤ) → Room w (up z) (dn z) → SFits w z
fits-parts z = fits-is z (up z) (dn z) refl

pub read : (w : Width) (z : ℤ) → SFits w z → Is (to_z w (of_z w z)) (up z) (dn z)
read w z = back_is w z (up z) (dn z) refl

pub is_eq : (a b : ℤ) → a ≡ b → Is a (up b) (dn b)
is_eq a b = from_is a b (up b) (dn b) refl

-- casts: from an unsigned number; to one, which asks for no sign and for room
pub fits-pos : {w : Width} (n : ℕ) → n < 2 ^ hbits w → SFits w (pos n)
fits-pos n h = record { sfits = h }

pub T-nonNeg : (z : ℤ) → dn z ≤ up z → T (non_neg z)
T-nonNeg (pos n) h = tt
T-nonNeg (negsuc n) h = absurd (omega arith)

pub fits-abs : {w : Width} (z : ℤ) → max (2 * up z) (2 * dn z) < 2 ^ bits w + up z + dn z → Fits w (nat_abs z)
fits-abs z h = record { fits = omega (arith, abs_is z, one0 z) }

-- omega takes the first rule that fits: a difference is a sum too, and both are numbers
pub ruleset ints = (
  is-sub,
  is-add,
  is-neg,
  is_mul,
  is_eq,
  read-sub,
  read-add,
  read-mul,
  read,
  fits_sub,
  fits-add,
  fits-mul,
  fits-pos,
  fits-parts,
  fits-abs,
  le-true,
  le-false,
  lt-true,
  lt-false,
  le_T,
  lt_T,
  T-le,
  T-lt,
  T-nonNeg,
  eq-sub,
  eq-add,
  eq-neg,
  eq-mul,
  parts,
  arith,
)

-- ---- ranges and what is read back, to be cited by name

-- the range of a type, as a fit
pub fit : (w : Width) (z : ℤ) → mag z < 2 ^ hbits w → SFits w z
fit w z h = record { sfits = h }

pub ret : (w : Width) (z : ℤ) → mag z < 2 ^ hbits w → to_z w (of_z w z) ≡ z
ret w z h = to_z-of_z (fit w z h)

-- a fit, taken apart for omega
pub record Seen (w : Width) (z : ℤ) : Type 0 where
  pub above : up (to_z w (of_z w z)) ≡ up z
  pub below : dn (to_z w (of_z w z)) ≡ dn z
  pub most : up z < 2 ^ hbits w
  pub least : dn z ≤ 2 ^ hbits w

pub seen : {w : Width} {z : ℤ} → SFits w z → Seen w z
seen {w} {z} h = record {
  above = ap up (to_z-of_z h);
  below = ap dn (to_z-of_z h);
  most = omega (arith, mag_is z);
  least = omega (arith, mag_is z);
}

-- a product of two variables, from bounds on both
mag-mul : (a b : ℤ) → mag (a *ℤ b) ≤ nat_abs a * nat_abs b
mag-mul (pos a) (pos b) = omega arith
mag-mul (pos a) (negsuc b) = let z : ℤ = neg_ℤ (pos (a * suc b)) in omega (arith, mag_is z, up_neg (pos (a * suc b)), dn-neg (pos (a * suc b)))
mag-mul (negsuc a) (pos b) = let z : ℤ = neg_ℤ (pos (suc a * b)) in omega (arith, mag_is z, up_neg (pos (suc a * b)), dn-neg (pos (suc a * b)))
mag-mul (negsuc a) (negsuc b) = omega arith

pub fits-times : {w : Width} (a b : ℤ) (m n : ℕ) → nat_abs a ≤ m → nat_abs b ≤ n → m * n < 2 ^ hbits w → SFits w (a *ℤ b)
fits-times a b m n p q h = record { sfits = omega (arith, mag-mul a b, mul-le-mul p q) }

-- a wider type holds what a narrower one does
pub read-wider : (w w' : Width) {z : ℤ} → T (leb (hbits w) (hbits w')) → SFits w z → to_z w' (of_z w' (to_z w (of_z w z))) ≡ z
read-wider w w' t h = rw (to_z-of_z h) (to_z-of_z (sfits_widen t h))

-- a test of two numbers that were read is a test of the numbers
pub le_is : {w : Width} {a b : ℤ} {t : Bool} → SFits w a → SFits w b → le_z (to_z w (of_z w a)) (to_z w (of_z w b)) ≡ t → le_z a b ≡ t
le_is h k e = rw (to_z-of_z h, to_z-of_z k) at e

-- ---- differences

pub same-diff : (a b c d : ℕ) → a + d ≡ c + b → pos a -ℤ pos b ≡ pos c -ℤ pos d
same-diff a b c d e = eq-sub (pos a -ℤ pos b) (pos c) (pos d) (omega (arith, sub-law (pos a) (pos b)))

pub neg-sub : (a b : ℤ) → neg_ℤ (a -ℤ b) ≡ b -ℤ a
neg-sub a b = eq-sub (neg_ℤ (a -ℤ b)) b a (omega (arith, sub-law a b, neg-law (a -ℤ b)))

-- ---- the tests that definitions use

pub eqz-true : (a b : ℤ) → eq_z a b ≡ true → a ≡ b
eqz-true a b e =
    let h : up a + dn b ≤ up b + dn a = le-true a b (and_left (le_z a b) (le_z b a) e) in
    let k : up b + dn a ≤ up a + dn b = le-true b a (and_right (le_z a b) (le_z b a) e) in parts a b (omega arith)

pub eq-eqz : (a b : ℤ) → a ≡ b → eq_z a b ≡ true
eq-eqz a b e = and-true (le_z a b) (le_z b a) (true-le a b (omega (arith, is_eq a b e))) (true-le b a (omega (arith, is_eq a b e)))

pub between-true : (lo hi z : ℤ) → between lo hi z ≡ true → (lo ≤ℤ z) × (z ≤ℤ hi)
unfolding between
between-true lo hi z e = let low : le_z lo z ≡ true = and_left (le_z lo z) (le_z z hi) e in
    (record { le = true-is _ low }, record { le = true-is _ (and_right (le_z lo z) (le_z z hi) e) })

-- `==` compares bits
pub eq-bits : {w : Width} {a b : ℤ} → SFits w a → SFits w b → of_z w a ≡ of_z w b → a ≡ b
eq-bits {w} h k e = sym (to_z-of_z h) ∙ ap (to_z w) e ∙ to_z-of_z k

pub eq_test : {w : Width} {a b : ℤ} → SFits w a → SFits w b → eqb (of_z w a) (of_z w b) ≡ eq_z a b
eq_test {w} {a} {b} h k = by-test (eq_z a b)
    (λ e. eq-eqb _ _ (ap (of_z w) (eqz-true a b e)) ∙ sym e)
    (λ e. ne_eqb _ _ (λ p. clash (eq_z a b) (eq-eqz a b (eq-bits h k p)) e) ∙ sym e)
