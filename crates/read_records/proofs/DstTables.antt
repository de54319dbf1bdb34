-- DST: a step is the sum of what four bits of each byte add, and the table of that. Assumes nothing.
use Prim.Native.Nat.{ℕ, ◌+◌, ◌*◌, ◌/◌, ◌%◌, ◌≤◌, ◌<◌}
use mathlib.Core.Path.{◌≡◌, sym, ◌∙◌}
use mathlib.Core.Bool.{Bool, true, false}
use mathlib.Core.List.{List}
use native.Mathlib.Omega.{arith}
use borrow.Author.Count.{below_more}
use lib.IntN.{ℤ, pos, nat_abs, ◌+ℤ◌, ◌-ℤ◌}
use lib.ListN.{length, get_or, set, length-set}
use lib.Seq.{get_or-set_same, get_or-set_other}
use mir.Facts.{to_z-of_z}
use mir.Syntax.{w32}
use mir.Val.{SFits, to_z, of_z}
use Rattle.rules.specs.Dst.{bit, weigh, dst_x, dst_y}
use Rattle.laws.specs.Ints.{ints, add-law, sub-law, neg-sub, abs-add}
use Rattle.read_records.specs.Digits.{dst_step, axis_bits}
use Rattle.read_records.specs.Tables.{DstSteps}
use Rattle.read_records.proofs.Formats.{x-le, y-le}
use Rattle.read_records.proofs.Signs.{small-fits}

-- ---- the sum

-- for any numbers as bits
apart : (p81 p27 p9 p3 p1 m81 m27 m9 m3 m1 : ℕ)
    → pos (weigh p81 p27 p9 p3 p1) -ℤ pos (weigh m81 m27 m9 m3 m1)
    ≡ pos (weigh 0 0 p9 0 p1) -ℤ pos (weigh 0 0 m9 0 m1) +ℤ (pos (weigh 0 p27 0 p3 0) -ℤ pos (weigh 0 m27 0 m3 0))
    +ℤ (pos (weigh p81 0 0 0 0) -ℤ pos (weigh m81 0 0 0 0))
unfolding weigh
apart p81 p27 p9 p3 p1 m81 m27 m9 m3 m1 =
    let a = sub-law (pos (weigh 0 0 p9 0 p1)) (pos (weigh 0 0 m9 0 m1)) in
    let b = sub-law (pos (weigh 0 p27 0 p3 0)) (pos (weigh 0 m27 0 m3 0)) in
    let c = sub-law (pos (weigh p81 0 0 0 0)) (pos (weigh m81 0 0 0 0)) in
    let s = sub-law (pos (weigh p81 p27 p9 p3 p1)) (pos (weigh m81 m27 m9 m3 m1)) in
    let t = add-law (pos (weigh 0 0 p9 0 p1) -ℤ pos (weigh 0 0 m9 0 m1)) (pos (weigh 0 p27 0 p3 0) -ℤ pos (weigh 0 m27 0 m3 0)) in
    omega ints

pub step-apart : (y : Bool) (a b c : ℕ) → dst_step y a b c ≡ dst_step y a 0 0 +ℤ dst_step y 0 b 0 +ℤ dst_step y 0 0 c
unfolding dst_x dst_y bit
step-apart false a b c = apart (bit 2 c) (bit 2 b) (bit 2 a) (bit 0 b) (bit 0 a) (bit 3 c) (bit 3 b) (bit 3 a) (bit 1 b) (bit 1 a)
step-apart true a b c =
    simp neg-sub (apart (bit 4 c) (bit 4 b) (bit 4 a) (bit 6 b) (bit 6 a) (bit 5 c) (bit 5 b) (bit 5 a) (bit 7 b) (bit 7 a))

size : (y : Bool) (a b c : ℕ) → nat_abs (dst_step y a b c) ≤ 242
size false a b c = x-le a b c
size true a b c = y-le a b c

pub step_fits : (y : Bool) (a b c : ℕ) → SFits w32 (dst_step y a b c)
step_fits y a b c = small-fits _ (omega (arith, size y a b c))

-- the bits of x, and those of y
low : (a : ℕ) → (bit 0 (a % 16) ≡ bit 0 a) × ((bit 1 (a % 16) ≡ bit 1 a) × ((bit 2 (a % 16) ≡ bit 2 a) × (bit 3 (a % 16) ≡ bit 3 a)))
unfolding bit
low a = (omega arith, (omega arith, (omega arith, omega arith)))

high : (a : ℕ)
    → (bit 4 (a / 16 * 16) ≡ bit 4 a) × ((bit 5 (a / 16 * 16) ≡ bit 5 a) × ((bit 6 (a / 16 * 16) ≡ bit 6 a) × (bit 7 (a / 16 * 16) ≡ bit 7 a)))
unfolding bit
high a = (omega arith, (omega arith, (omega arith, omega arith)))

module _ (a b c : ℕ) where
  pub x-low : dst_x (a % 16) (b % 16) (c % 16) ≡ dst_x a b c
  unfolding dst_x
  x-low =
      let p = low a in let q = low b in let r = low c in
      rw (p.0, p.1.0, p.1.1.0, p.1.1.1, q.0, q.1.0, q.1.1.0, q.1.1.1, r.1.1.0, r.1.1.1)

  pub y-high : dst_y (a / 16 * 16) (b / 16 * 16) (c / 16 * 16) ≡ dst_y a b c
  unfolding dst_y
  y-high =
      let p = high a in let q = high b in let r = high c in
      rw (p.0, p.1.0, p.1.1.0, p.1.1.1, q.0, q.1.0, q.1.1.0, q.1.1.1, r.0, r.1.0)

-- ---- the filling loop

abbrev pub Entries : Bool → List ℤ → ℕ → Type 0
Entries y t k =
    (get_or t k (pos 0) ≡ dst_step y (axis_bits y k) 0 0)
    × ((get_or t (16 + k) (pos 0) ≡ dst_step y 0 (axis_bits y k) 0) × (get_or t (32 + k) (pos 0) ≡ dst_step y 0 0 (axis_bits y k)))

pub entries-more : (y : Bool) (t : List ℤ) (n : ℕ) {u v w : ℤ} → length t ≡ 48 → n < 16
    → u ≡ dst_step y (axis_bits y n) 0 0 → v ≡ dst_step y 0 (axis_bits y n) 0 → w ≡ dst_step y 0 0 (axis_bits y n)
    → ((k : ℕ) → k < n → Entries y t k) → (k : ℕ) → k < n + 1 → Entries y (set (set (set t n u) (16 + n) v) (32 + n) w) k
entries-more y t n {u} {v} {w} e h eu ev ew f =
    let one : List ℤ = set t n u in
    let two : List ℤ = set one (16 + n) v in
    let e1 : length one ≡ 48 = length-set t n u ∙ e in
    let e2 : length two ≡ 48 = length-set one (16 + n) v ∙ e1 in
    let off : (k : ℕ) → (k ≡ 16 + n → ⊥) → (k ≡ 32 + n → ⊥) → get_or (set two (32 + n) w) k (pos 0) ≡ get_or one k (pos 0)
    = λ k p q. get_or-set_other two (32 + n) k w (pos 0) q ∙ get_or-set_other one (16 + n) k v (pos 0) p in
    let other : (k : ℕ) → (k ≡ n → ⊥) → (k ≡ 16 + n → ⊥) → (k ≡ 32 + n → ⊥) → get_or (set two (32 + n) w) k (pos 0) ≡ get_or t k (pos 0)
    = λ k o p q. off k p q ∙ get_or-set_other t n k u (pos 0) o in
    below_more (Entries y (set two (32 + n) w)) n
    (λ k m. (
      other k (λ z. omega arith) (λ z. omega arith) (λ z. omega arith) ∙ (f k m).0,
      (
        other (16 + k) (λ z. omega arith) (λ z. omega arith) (λ z. omega arith) ∙ (f k m).1.0,
        other (32 + k) (λ z. omega arith) (λ z. omega arith) (λ z. omega arith) ∙ (f k m).1.1,
      ),
    )) (
      off n (λ z. omega arith) (λ z. omega arith) ∙ get_or-set_same t n u (pos 0) (omega arith) ∙ eu,
      (
        get_or-set_other two (32 + n) (16 + n) w (pos 0) (λ z. omega arith) ∙ get_or-set_same one (16 + n) v (pos 0) (omega arith) ∙ ev,
        get_or-set_same two (32 + n) w (pos 0) (omega arith) ∙ ew,
      ),
    )

-- ---- what the code reads and computes

module _ {y : Bool} {t : List ℤ} (p : DstSteps y t) (i j k : ℕ) (h : i < 16) (l : j < 16) (m : k < 16) where
  abbrev word : ℕ → ℤ
  word n = to_z w32 (of_z w32 (get_or t n (pos 0)))

  first_read : word i ≡ dst_step y (axis_bits y i) 0 0
  first_read = rw (p.first i h) (to_z-of_z (step_fits y (axis_bits y i) 0 0))

  second-read : word (16 + j) ≡ dst_step y 0 (axis_bits y j) 0
  second-read = rw (p.second j l) (to_z-of_z (step_fits y 0 (axis_bits y j) 0))

  third-read : word (32 + k) ≡ dst_step y 0 0 (axis_bits y k)
  third-read = rw (p.third k m) (to_z-of_z (step_fits y 0 0 (axis_bits y k)))

  pub two-fit : SFits w32 (word i +ℤ word (16 + j))
  two-fit =
      rw (first_read, second-read)
      (small-fits _ (omega (arith, abs-add (dst_step y (axis_bits y i) 0 0) (dst_step y 0 (axis_bits y j) 0), size y (axis_bits y i) 0 0, size y 0 (axis_bits y j) 0)))

  all-is : to_z w32 (of_z w32 (word i +ℤ word (16 + j))) +ℤ word (32 + k) ≡ dst_step y (axis_bits y i) (axis_bits y j) (axis_bits y k)
  all-is = rw (to_z-of_z two-fit, first_read, second-read, third-read) (sym (step-apart y (axis_bits y i) (axis_bits y j) (axis_bits y k)))

  pub all_fit : SFits w32 (to_z w32 (of_z w32 (word i +ℤ word (16 + j))) +ℤ word (32 + k))
  all_fit = rw all-is (step_fits y (axis_bits y i) (axis_bits y j) (axis_bits y k))

  pub all_read : to_z w32 (of_z w32 (to_z w32 (of_z w32 (word i +ℤ word (16 + j))) +ℤ word (32 + k))) ≡ dst_step y (axis_bits y i) (axis_bits y j) (axis_bits y k)
  all_read = to_z-of_z all_fit ∙ all-is
