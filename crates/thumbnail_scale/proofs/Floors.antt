-- What `floor` learns from its two tests of a float, against 0 and against 48.
use Rattle.std.proofs.Common.{◌≡◌, ℕ, zero, suc, ◌+◌, ◌-◌, ◌*◌, ◌/◌, ◌<◌, ◌≤◌, Bool, true, false, not, T, pos, neg_ℤ, sym, refl, subst, div-lt_iff_lt-mul, le-div_iff_mul-le, arith, ltb→lt, lt→ltb, nltb→le, le-ltb, lt-ltb}
use lib.Arith.{lt-one}
use lib.Ieee.{Float, nan, inf, fin, binary64, up, down, lt, of_bits, to_unsigned}
use lib.Ieee.Fits.{down_pos}
use Rattle.rules.specs.Thumbnails.{f48, floor_of, within}

-- a test that fails, as what computes
pub fails : (b : Bool) → b ≡ false → T (not b)
fails b e = subst (λ (b : Bool). T (not b)) (sym e) tt

-- ---- -a / d rounded down, a number below zero unless a is 0

up-of-none : (d : ℕ) → 0 < d → (0 + (d - 1)) / d ≡ 0
up-of-none d h = lt-one ((div-lt_iff_lt-mul h).1 (omega arith))

up-of-some : (a d : ℕ) → 0 < a → 0 < d → 0 < (a + (d - 1)) / d
up-of-some a d p h = (le-div_iff_mul-le h).1 (omega arith)

off-picture : (q : ℕ) → 0 < q → within (neg_ℤ (pos q)) ≡ 48
unfolding within
off-picture zero h = absurd (omega arith)
off-picture (suc q) h = refl

pub minus-zero : (a d : ℕ) → a ≡ 0 → 0 < d → within (neg_ℤ (pos ((a + (d - 1)) / d))) ≡ 0
unfolding within
minus-zero a d e h = rw (e, up-of-none d h)

-- ---- the three ways through `floor`

-- below 0
pub left-of : (x : Float) → T (lt x (of_bits binary64 0)) → within (floor_of x) ≡ 48
unfolding lt of_bits within floor_of
left-of nan t = refl
left-of (inf s) t = refl
left-of (fin false m e) t = absurd (omega (arith, ltb→lt (m * up e * 1) (0 * down e) t))
left-of (fin true m e) t = off-picture _ (up-of-some (m * up e) (down e) (omega (arith, ltb→lt 0 (m * up e * 1 + 0 * down e) t)) (down_pos e))

-- not below 0 and not below 48: a number that large, an infinity, or a NaN
pub right_of : (x : Float) → T (not (lt x (of_bits binary64 0))) → T (not (lt x f48)) → within (floor_of x) ≡ 48
unfolding lt of_bits within floor_of
right_of nan s t = refl
right_of (inf b) s t = refl
right_of (fin false m e) s t =
    let h : 48 ≤ m * up e / down e = (le-div_iff_mul-le (down_pos e)).1 (omega (arith, nltb→le (m * up e * 1) (48 * down e) t)) in
    simp (le-ltb _ _ h)
right_of (fin true m e) s t = absurd (omega (arith, down_pos e, nltb→le 0 (m * up e * 1 + 48 * down e) t))

-- from 0 to below 48: the float that is cut is the floor
pub cut : (x : Float) → T (not (lt x (of_bits binary64 0))) → T (lt x f48) → to_unsigned 64 x ≡ within (floor_of x)
unfolding lt of_bits within floor_of to_unsigned
cut nan s t = absurd t
cut (inf true) s t = absurd s
cut (inf false) s t = absurd t
cut (fin false m e) s t =
    let h : m * up e / down e < 48 = (div-lt_iff_lt-mul (down_pos e)).1 (omega (arith, ltb→lt (m * up e * 1) (48 * down e) t)) in
    simp (lt-ltb _ _ h) (omega arith)
cut (fin true m e) s t = sym (minus-zero (m * up e) (down e) (omega (arith, nltb→le 0 (m * up e * 1 + 0 * down e) s)) (down_pos e))

-- and it is in the range that the cut asks for
pub cut_range : (x : Float) → T (not (lt x (of_bits binary64 0))) → T (lt x f48) → T (lt (fin true 1 (pos 0)) x) × T (lt x (fin false 1 (pos 64)))
unfolding lt of_bits
cut_range nan s t = absurd t
cut_range (inf true) s t = absurd s
cut_range (inf false) s t = absurd t
cut_range (fin false m e) s t = (
  lt→ltb 0 (1 * down e + m * up e * 1) (omega (arith, down_pos e)),
  lt→ltb (m * up e * 1) (18446744073709551616 * down e) (omega (arith, down_pos e, ltb→lt (m * up e * 1) (48 * down e) t)),
)
cut_range (fin true m e) s t = (
  lt→ltb (m * up e * 1) (1 * down e) (omega (arith, down_pos e, nltb→le 0 (m * up e * 1 + 0 * down e) s)),
  lt→ltb 0 (m * up e * 1 + 18446744073709551616 * down e) (omega (arith, down_pos e)),
)
