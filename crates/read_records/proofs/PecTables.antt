-- PEC: a step by what its first byte adds, and the table of that. Assumes nothing.
use Prim.Native.Nat.{ℕ, ◌+◌, ◌*◌, ◌/◌, ◌%◌, ◌≤◌, ◌<◌}
use mathlib.Core.Path.{◌≡◌, refl, sym, ◌∙◌}
use mathlib.Core.Bool.{Bool, true, false, ◌&&◌}
use mathlib.Core.List.{List}
use native.Mathlib.Decide.{dec_lt}
use native.Mathlib.Omega.{arith}
use native.Mathlib.Nat.{zero-mul, one-mul, mul-le-mul}
use borrow.Author.Count.{below_more}
use borrow.Author.Tests.{ltb-true, ltb-false}
use lib.Dec.{eqb, ltb}
use lib.IntN.{ℤ, pos, nat_abs, ◌+ℤ◌, ◌-ℤ◌, ◌*ℤ◌}
use lib.ListN.{length, get_or, set, length-set}
use lib.Seq.{get_or-set_same, get_or-set_other}
use mir.Facts.{to_z-of_z, to_z_pos}
use mir.Syntax.{w32}
use mir.Val.{SFits, to_z, of_z}
use Rattle.rules.specs.Vocabulary.{pick, signed}
use Rattle.laws.specs.Ints.{sub-law, eq-add}
use Rattle.laws.specs.Tests.{by-test}
use Rattle.laws.specs.Twos.{signed_low, signed_high}
use Rattle.read_records.specs.Tables.{PecSteps}
use Rattle.read_records.specs.Words.{axis_step, first_part, plain_step}
use Rattle.read_records.proofs.Signs.{signed-size, small-fits}

-- eight low bits do not carry into the sign
low-adds : (n b : ℕ) → n % 256 ≡ 0 → n < 4096 → b < 256 → signed 11 (n + b) ≡ signed 11 n +ℤ pos b
low-adds n b d h k = elim (dec_lt n 2048) [
  | yes l ↦ signed_low 11 (n + b) (omega arith) ∙ rw (signed_low 11 n l)
  | no l ↦
      let s = sub-law (pos n) (pos 4096) in
      let t = sub-law (pos (n + b)) (pos 4096) in
      signed_high 11 (n + b) (omega arith) (omega arith)
      ∙ rw (signed_high 11 n (omega arith) h) (eq-add (pos (n + b) -ℤ pos 4096) (pos n -ℤ pos 4096) (pos b) (omega arith))
]

by_first : (a b : ℕ) → a < 256 → b < 256 → axis_step a b ≡ first_part a +ℤ pos (a / 128 * b)
by_first a b h k = by-test (ltb a 128)
    (λ e. let n : a / 128 ≡ 0 = omega (arith, ltb-true a 128 e) in rw (e, n, zero-mul b) (eq-add (signed 6 a) (signed 6 a) (pos 0) (omega arith)))
    (λ e. let n : a / 128 ≡ 1 = omega (arith, ltb-false a 128 e) in rw (e, n, one-mul b) (low-adds (a % 16 * 256) b (omega arith) (omega arith) k))

-- one byte or two
size : (a m n : ℕ) → nat_abs (pick (ltb a 128) (signed 6 m) (signed 11 n)) ≤ 2048
size a m n = by-test (ltb a 128) (λ e. rw e (omega (arith, signed-size 6 m))) (λ e. rw e (omega (arith, signed-size 11 n)))

fits : (a m n : ℕ) → SFits w32 (pick (ltb a 128) (signed 6 m) (signed 11 n))
fits a m n = small-fits _ (omega (arith, size a m n))

-- ---- the filling loop

abbrev pub Entries : List ℤ → ℕ → Type 0
Entries t k = (get_or t k (pos 0) ≡ first_part k) × (get_or t (256 + k) (pos 0) ≡ pick (plain_step k) (pos 1) (pos 0))

pub entries-more : (t : List ℤ) (n : ℕ) {v u : ℤ} → length t ≡ 512 → n < 256 → v ≡ first_part n → u ≡ pick (plain_step n) (pos 1) (pos 0)
    → ((k : ℕ) → k < n → Entries t k) → (k : ℕ) → k < n + 1 → Entries (set (set t n v) (256 + n) u) k
entries-more t n {v} {u} e h ev eu f =
    let l : length (set t n v) ≡ 512 = length-set t n v ∙ e in
    let other : (k : ℕ) → (k ≡ n → ⊥) → (k ≡ 256 + n → ⊥) → get_or (set (set t n v) (256 + n) u) k (pos 0) ≡ get_or t k (pos 0)
    = λ k p q. get_or-set_other (set t n v) (256 + n) k u (pos 0) q ∙ get_or-set_other t n k v (pos 0) p in
    below_more (Entries (set (set t n v) (256 + n) u)) n
    (λ k m. (other k (λ z. omega arith) (λ z. omega arith) ∙ (f k m).0, other (256 + k) (λ z. omega arith) (λ z. omega arith) ∙ (f k m).1)) (
      get_or-set_other (set t n v) (256 + n) n u (pos 0) (λ z. omega arith) ∙ get_or-set_same t n v (pos 0) (omega arith) ∙ ev,
      get_or-set_same (set t n v) (256 + n) u (pos 0) (omega arith) ∙ eu,
    )

-- ---- what the code reads and computes

module _ {t : List ℤ} (p : PecSteps t) (a : ℕ) (h : a < 256) where
  pub first_read : to_z w32 (of_z w32 (get_or t a (pos 0))) ≡ first_part a
  first_read = rw (p.first a h) (to_z-of_z (fits a a (a % 16 * 256)))

  pub plain-read : to_z w32 (of_z w32 (get_or t (256 + a) (pos 0))) ≡ pick (plain_step a) (pos 1) (pos 0)
  plain-read = rw (p.plain a h) (by-test (plain_step a) (λ e. rw e) (λ e. rw e))

module _ (a : ℕ) (h : a < 256) (b : ℕ) (k : b < 256) where
  second_is : to_z w32 (a / 128) *ℤ to_z w32 b ≡ pos (a / 128 * b)
  second_is = rw (to_z_pos w32 {n = a / 128} (omega arith), to_z_pos w32 {n = b} (omega arith))

  pub second_fits : SFits w32 (to_z w32 (a / 128) *ℤ to_z w32 b)
  second_fits =
      let q : a / 128 ≤ 1 = omega arith in
      let r : b ≤ 255 = omega arith in
      rw second_is (record { sfits = omega (arith, mul-le-mul q r) })

  sum_is : first_part a +ℤ to_z w32 (of_z w32 (to_z w32 (a / 128) *ℤ to_z w32 b)) ≡ axis_step a b
  sum_is = rw (to_z-of_z second_fits, second_is) (sym (by_first a b h k))

  pub sum_fits : SFits w32 (first_part a +ℤ to_z w32 (of_z w32 (to_z w32 (a / 128) *ℤ to_z w32 b)))
  sum_fits = rw sum_is (fits a a (a % 16 * 256 + b))

  pub sum-read : to_z w32 (of_z w32 (first_part a +ℤ to_z w32 (of_z w32 (to_z w32 (a / 128) *ℤ to_z w32 b)))) ≡ axis_step a b
  sum-read = to_z-of_z sum_fits ∙ sum_is

-- two marks, each 1 or 0
both-fit : (p q : Bool) → SFits w32 (pick p (pos 1) (pos 0) *ℤ pick q (pos 1) (pos 0))
both-fit p q = by-test p (λ e. rw e (by-test q (λ f. rw f (omega arith)) (λ f. rw f (omega arith))))
    (λ e. rw e (by-test q (λ f. rw f (omega arith)) (λ f. rw f (omega arith))))

both_is : (p q : Bool) → eqb (of_z w32 (pick p (pos 1) (pos 0) *ℤ pick q (pos 1) (pos 0))) 1 ≡ (p && q)
both_is true true = refl
both_is true false = refl
both_is false true = refl
both_is false false = refl

module _ {t : List ℤ} (p : PecSteps t) (a : ℕ) (h : a < 256) (b : ℕ) (k : b < 256) where
  abbrev marks : ℤ
  marks = to_z w32 (of_z w32 (get_or t (256 + a) (pos 0))) *ℤ to_z w32 (of_z w32 (get_or t (256 + b) (pos 0)))

  pub marks-fit : SFits w32 marks
  marks-fit = rw (plain-read p a h, plain-read p b k) (both-fit (plain_step a) (plain_step b))

  pub marks-both : eqb (of_z w32 marks) 1 ≡ (plain_step a && plain_step b)
  marks-both = rw (plain-read p a h, plain-read p b k) (both_is (plain_step a) (plain_step b))
