-- DST: the cases of the pairs give the sum of the definitions. Assumes nothing.
use Prim.Native.Nat.{ℕ, zero, suc, ◌+◌, ◌*◌, ◌/◌, ◌%◌, ◌≤◌}
use mathlib.Core.Path.{◌≡◌, ap}
use mathlib.Core.Bool.{Bool}
use native.Mathlib.Omega.{arith}
use lib.Dec.{T, eqb}
use lib.IntN.{ℤ, pos, negsuc, neg_ℤ, nat_abs, ◌+ℤ◌, ◌-ℤ◌, ◌*ℤ◌, +ℤ_idl}
use mir.Facts.{to_z-of_z}
use mir.Syntax.{w32}
use mir.Val.{SFits, to_z, of_z}
use Rattle.rules.specs.Vocabulary.{eq_z}
use Rattle.rules.specs.Dst.{bit, weigh, dst_x, dst_y}
use Rattle.laws.specs.Ints.{eqz-true, abs-add, abs_neg}
use Rattle.laws.specs.Tables.{below, checked}
use Rattle.laws.specs.Tests.{is_true, by-test}
use Rattle.read_records.specs.Digits.{pair_digit, weighed}
use Rattle.read_records.proofs.Signs.{small-fits}

-- ---- one axis: the ten bits of n, from the top the pairs of 81, 27, 9, 3 and 1, plus before minus

by_cases : ℕ → ℤ
by_cases n =
    weighed (pair_digit (bit 9 n) (bit 8 n)) (pair_digit (bit 7 n) (bit 6 n)) (pair_digit (bit 5 n) (bit 4 n)) (pair_digit (bit 3 n) (bit 2 n))
    (pair_digit (bit 1 n) (bit 0 n))

by_sum : ℕ → ℤ
by_sum n = pos (weigh (bit 9 n) (bit 7 n) (bit 5 n) (bit 3 n) (bit 1 n)) -ℤ pos (weigh (bit 8 n) (bit 6 n) (bit 4 n) (bit 2 n) (bit 0 n))

same : ℕ → Bool
same n = eq_z (by_cases n) (by_sum n)

-- all 1,024 settings, computed
settings : T (below same 1024)
unfolding same by_cases by_sum pair_digit weighed weigh bit
settings = tt

-- any ten bits are one of them
module _ (p81 m81 p27 m27 p9 m9 p3 m3 p1 m1 : ℕ) where
  abbrev setting : ℕ
  setting =
      m1 % 2 + 2 * (p1 % 2) + 4 * (m3 % 2) + 8 * (p3 % 2) + 16 * (m9 % 2) + 32 * (p9 % 2) + 64 * (m27 % 2) + 128 * (p27 % 2)
      + 256 * (m81 % 2) + 512 * (p81 % 2)

  -- its bits, from the top
  record Bits : Type 0 where
    b9 : bit 9 setting ≡ p81 % 2
    b8 : bit 8 setting ≡ m81 % 2
    b7 : bit 7 setting ≡ p27 % 2
    b6 : bit 6 setting ≡ m27 % 2
    b5 : bit 5 setting ≡ p9 % 2
    b4 : bit 4 setting ≡ m9 % 2
    b3 : bit 3 setting ≡ p3 % 2
    b2 : bit 2 setting ≡ m3 % 2
    b1 : bit 1 setting ≡ p1 % 2
    b0 : bit 0 setting ≡ m1 % 2

  bits : Bits
  unfolding bit
  bits = record {
    b9 = omega arith;
    b8 = omega arith;
    b7 = omega arith;
    b6 = omega arith;
    b5 = omega arith;
    b4 = omega arith;
    b3 = omega arith;
    b2 = omega arith;
    b1 = omega arith;
    b0 = omega arith;
  }

  pub by_cases_lem : weighed (pair_digit (p81 % 2) (m81 % 2)) (pair_digit (p27 % 2) (m27 % 2)) (pair_digit (p9 % 2) (m9 % 2)) (pair_digit (p3 % 2) (m3 % 2))
      (pair_digit (p1 % 2) (m1 % 2))
      ≡ pos (weigh (p81 % 2) (p27 % 2) (p9 % 2) (p3 % 2) (p1 % 2)) -ℤ pos (weigh (m81 % 2) (m27 % 2) (m9 % 2) (m3 % 2) (m1 % 2))
  unfolding same by_cases by_sum
  by_cases_lem =
      let s = bits in
      rw (s.b9, s.b8, s.b7, s.b6, s.b5, s.b4, s.b3, s.b2, s.b1, s.b0) at
      (eqz-true (by_cases setting) (by_sum setting) (is_true _ (checked same 1024 settings setting (omega arith))))

-- ---- both axes

module _ (a b c : ℕ) where
  pub x-cases : weighed (pair_digit (c / 4 % 2) (c / 8 % 2)) (pair_digit (b / 4 % 2) (b / 8 % 2)) (pair_digit (a / 4 % 2) (a / 8 % 2))
      (pair_digit (b / 1 % 2) (b / 2 % 2)) (pair_digit (a / 1 % 2) (a / 2 % 2))
      ≡ dst_x a b c
  unfolding dst_x bit
  x-cases = by_cases_lem (c / 4) (c / 8) (b / 4) (b / 8) (a / 4) (a / 8) (b / 1) (b / 2) (a / 1) (a / 2)

  pub y-cases : neg_ℤ (weighed (pair_digit (c / 32 % 2) (c / 16 % 2)) (pair_digit (b / 32 % 2) (b / 16 % 2)) (pair_digit (a / 32 % 2) (a / 16 % 2))
      (pair_digit (b / 128 % 2) (b / 64 % 2)) (pair_digit (a / 128 % 2) (a / 64 % 2)))
      ≡ dst_y a b c
  unfolding dst_y bit
  y-cases = ap neg_ℤ (by_cases_lem (c / 32) (c / 16) (b / 32) (b / 16) (a / 32) (a / 16) (b / 128) (b / 64) (a / 128) (a / 64))

-- ---- the code's sum

digit-size : (p m : ℕ) → nat_abs (pair_digit p m) ≤ 1
unfolding pair_digit
digit-size p m =
    by-test (eqb p m) (λ e. rw e (omega arith))
    (λ e. by-test (eqb p 1) (λ f. rw (e, f) (omega arith)) (λ f. rw (e, f) (omega arith)))

-- the code's v is z, which is at most n
pub record Held (v z : ℤ) (n : ℕ) : Type 0 where
  pub fits : SFits w32 v
  pub is : to_z w32 (of_z w32 v) ≡ z
  pub size : nat_abs z ≤ n

held : {v z : ℤ} {n : ℕ} → v ≡ z → nat_abs z ≤ n → n ≤ 4096 → Held v z n
held {v} {z} e h l =
    let f : SFits w32 z = small-fits z (omega arith) in
    record { fits = rw e f; is = rw e (to_z-of_z f); size = h }

pub held-digit : (p m : ℕ) {v : ℤ} → v ≡ pair_digit p m → Held v (pair_digit p m) 1
held-digit p m e = held e (digit-size p m) (omega arith)

times : (d : ℤ) (k : ℕ) → nat_abs d ≤ 1 → nat_abs (d *ℤ pos k) ≤ k
times (pos zero) k h = omega arith
times (pos (suc zero)) k h = omega arith
times (pos (suc (suc n))) k h = absurd (omega arith)
times (negsuc zero) k h = omega (arith, abs_neg (pos (1 * k)))
times (negsuc (suc n)) k h = absurd (omega arith)

pub held-times : {v z : ℤ} (k : ℕ) → k ≤ 4096 → Held v z 1 → Held (to_z w32 (of_z w32 v) *ℤ pos k) (z *ℤ pos k) k
held-times {v} {z} k l h = held (rw h.is) (times z k h.size) l

held-add : {v w y z : ℤ} {m n : ℕ} → m + n ≤ 4096 → Held v y m → Held w z n → Held (to_z w32 (of_z w32 v) +ℤ to_z w32 (of_z w32 w)) (y +ℤ z) (m + n)
held-add {y = y} {z = z} l h k = held (rw (h.is, k.is)) (omega (arith, abs-add y z, h.size, k.size)) l

pub held-neg : {v z : ℤ} {n : ℕ} → n ≤ 4096 → Held v z n → Held (pos 0 -ℤ to_z w32 (of_z w32 v)) (neg_ℤ z) n
held-neg {z = z} l h = held (rw (h.is, +ℤ_idl)) (omega (arith, abs_neg z, h.size)) l

-- digit by digit, the greatest weight first
module _ {v81 v27 z81 z27 : ℤ} (h81 : Held v81 z81 1) (h27 : Held v27 z27 1) where
  abbrev code2 : ℤ
  code2 = to_z w32 (of_z w32 (to_z w32 (of_z w32 v81) *ℤ pos 81)) +ℤ to_z w32 (of_z w32 (to_z w32 (of_z w32 v27) *ℤ pos 27))

  pub two : Held code2 (z81 *ℤ pos 81 +ℤ z27 *ℤ pos 27) 108
  two = held-add (omega arith) (held-times 81 (omega arith) h81) (held-times 27 (omega arith) h27)

  module _ {v9 z9 : ℤ} (h9 : Held v9 z9 1) where
    abbrev code3 : ℤ
    code3 = to_z w32 (of_z w32 code2) +ℤ to_z w32 (of_z w32 (to_z w32 (of_z w32 v9) *ℤ pos 9))

    pub three : Held code3 (z81 *ℤ pos 81 +ℤ z27 *ℤ pos 27 +ℤ z9 *ℤ pos 9) 117
    three = held-add (omega arith) two (held-times 9 (omega arith) h9)

    module _ {v3 z3 : ℤ} (h3 : Held v3 z3 1) where
      abbrev code4 : ℤ
      code4 = to_z w32 (of_z w32 code3) +ℤ to_z w32 (of_z w32 (to_z w32 (of_z w32 v3) *ℤ pos 3))

      pub four : Held code4 (z81 *ℤ pos 81 +ℤ z27 *ℤ pos 27 +ℤ z9 *ℤ pos 9 +ℤ z3 *ℤ pos 3) 120
      four = held-add (omega arith) three (held-times 3 (omega arith) h3)

      pub five : {v1 z1 : ℤ} → Held v1 z1 1 → Held (to_z w32 (of_z w32 code4) +ℤ to_z w32 (of_z w32 v1)) (weighed z81 z27 z9 z3 z1) 121
      unfolding weighed
      five h1 = held-add (omega arith) four h1
