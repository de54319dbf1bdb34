-- PEC: the first record from byte i on, by the four bytes from there as one number. Assumes nothing.
use Prim.Native.Nat.{ℕ, ◌+◌, ◌-◌, ◌*◌, ◌/◌, ◌%◌, ◌≤◌, ◌<◌}
use mathlib.Core.Path.{◌≡◌, refl, ◌∙◌}
use mathlib.Core.Bool.{Bool, true, false, not, ◌&&◌}
use mathlib.Core.List.{List}
use native.Mathlib.Omega.{arith}
use native.Mathlib.Nat.{zero-add, zero-mul, one-mul, mul-le-mul}
use borrow.Author.Tests.{ne_eqb, ltb-true, ltb-false, eqb-true, eqb-false}
use lib.Dec.{eqb, ltb}
use lib.ListN.{length, get_or, drop}
use lib.Seq.{drop-drop}
use lib.IntN.{ℤ, pos}
use Rattle.rules.specs.Vocabulary.{pick}
use Rattle.rules.specs.Pec.{axis, axis_of, after_axis, both_axes, pec_first}
use Rattle.rules.specs.declared.Record.{Record}
use Rattle.rules.specs.declared.Record.TheVariants.{StitchBy, JumpBy, ChangeBy, Finish}
use Rattle.laws.specs.Tests.{by-test, pick-ge}
use Rattle.read_records.specs.Words.{four_at, past_step, axis_step, plain_step}
use Rattle.read_records.proofs.Pecs.{axis-short, axis-long, pec-end, pec_change_lem, pec-move}

-- ---- the jump bits of a step that begins with a

pub mark-le : (a : ℕ) → a < 256 → a / 128 * (a / 16 % 4) ≤ 3
mark-le a h = let p : a / 128 ≤ 1 = omega arith in let q : a / 16 % 4 ≤ 3 = omega arith in mul-le-mul p q

mark-is : (a : ℕ) → a < 256 → eqb (a / 128 * (a / 16 % 4)) 0 ≡ plain_step a
mark-is a h = by-test (ltb a 128)
    (λ e. let n : a / 128 ≡ 0 = omega (arith, ltb-true a 128 e) in rw (e, n, zero-mul (a / 16 % 4)))
    (λ e. let n : a / 128 ≡ 1 = omega (arith, ltb-false a 128 e) in rw (e, n, one-mul (a / 16 % 4)))

none : (m n : ℕ) → eqb (m + n) 0 ≡ (eqb m 0 && eqb n 0)
none m n = by-test (eqb m 0)
    (λ e. let p : m ≡ 0 = eqb-true m 0 e in rw (p, zero-add n))
    (λ e. rw e (ne_eqb (m + n) 0 (λ z. eqb-false m 0 e (omega arith))))

pub no-marks : (a b : ℕ) → a < 256 → b < 256 → eqb (a / 128 * (a / 16 % 4) + b / 128 * (b / 16 % 4)) 0 ≡ (plain_step a && plain_step b)
no-marks a b h k = none (a / 128 * (a / 16 % 4)) (b / 128 * (b / 16 % 4)) ∙ rw (mark-is a h, mark-is b k)

-- ---- a word of four bytes

-- two steps, the first standing lowest in w
abbrev pub steps_of : ℕ → Record
steps_of w =
    pick (plain_step (w % 256) && plain_step (past_step w % 256))
    (StitchBy (axis_step (w % 256) (w / 256 % 256)) (axis_step (past_step w % 256) (past_step w / 256 % 256)) (2 + w / 128 % 2 + past_step w / 128 % 2))
    (JumpBy (axis_step (w % 256) (w / 256 % 256)) (axis_step (past_step w % 256) (past_step w / 256 % 256)) (2 + w / 128 % 2 + past_step w / 128 % 2))

-- a step that begins with a
step_is : (s : List ℕ) (i : ℕ) → i + 1 < length s → get_or s i 0 < 256
    → axis_of (drop i s) ≡ axis (not (plain_step (get_or s i 0))) (axis_step (get_or s i 0) (get_or s (i + 1) 0)) (1 + get_or s i 0 / 128)
step_is s i h k = by-test (ltb (get_or s i 0) 128)
    (λ e. let n : get_or s i 0 / 128 ≡ 0 = omega (arith, ltb-true (get_or s i 0) 128 e) in axis-short s i (omega arith) (ltb-true _ _ e) ∙ rw (e, n))
    (λ e. let n : get_or s i 0 / 128 ≡ 1 = omega (arith, ltb-false (get_or s i 0) 128 e) in axis-long s i h (ltb-false _ _ e) ∙ rw (e, n))

-- two steps as a record
both_is : (p q : Bool) (x y : ℤ) (m n : ℕ) → both_axes (axis (not p) x m) (axis (not q) y n) ≡ pick (p && q) (StitchBy x y (m + n)) (JumpBy x y (m + n))
unfolding both_axes
both_is true true x y m n = refl
both_is true false x y m n = refl
both_is false q x y m n = refl

-- the bit that makes a step two bytes
top-is : (w a : ℕ) → w % 256 ≡ a → w / 128 % 2 ≡ a / 128
top-is w a e = omega arith

module _ (s : List ℕ) (i : ℕ) (small : (k : ℕ) → get_or s k 0 < 256) where
  -- the bytes of the word
  record Bytes : Type 0 where
    first : four_at s i % 256 ≡ get_or s i 0
    second : four_at s i / 256 % 256 ≡ get_or s (i + 1) 0
    third : four_at s i / 65536 % 256 ≡ get_or s (i + 2) 0
    fourth : four_at s i / 65536 / 256 % 256 ≡ get_or s (i + 3) 0
    low_two : four_at s i % 65536 ≡ get_or s i 0 + 256 * get_or s (i + 1) 0

  word : Bytes
  unfolding four_at
  word = omega (arith, small i, small (i + 1), small (i + 2), small (i + 3))

  -- where the second step begins
  abbrev next : ℕ
  next = i + (1 + get_or s i 0 / 128)

  past : (past_step (four_at s i) % 256 ≡ get_or s next 0) × (past_step (four_at s i) / 256 % 256 ≡ get_or s (next + 1) 0)
  past = by-test (ltb (get_or s i 0) 128)
      (λ e. let n : next ≡ i + 1 = omega (arith, ltb-true (get_or s i 0) 128 e) in let m : next + 1 ≡ i + 2 = omega arith in
      rw (word.first, e, m, n) (omega (arith, word.second), omega (arith, word.third)))
      (λ e. let n : next ≡ i + 2 = omega (arith, ltb-false (get_or s i 0) 128 e, small i) in let m : next + 1 ≡ i + 3 = omega arith in
      rw (word.first, e, m, n) (word.third, word.fourth))

  module _ (h : i + 4 ≤ length s) where
    pub word_end : four_at s i % 65536 ≡ 0x00FF → pec_first (drop i s) ≡ Finish
    word_end e = pec-end s i (omega arith) (small (i + 1)) (omega (arith, word.low_two, small i))

    pub word-change : four_at s i % 65536 ≡ 0xB0FE → pec_first (drop i s) ≡ ChangeBy (pos 0) (pos 0) 3
    word-change e = pec_change_lem s i (omega arith) (small (i + 1)) (omega (arith, word.low_two, small i))
        ∙ pick-ge (length s - i) 3 Finish (ChangeBy (pos 0) (pos 0) 3) (omega arith)

    moves : pec_first (drop i s) ≡ both_axes (axis_of (drop i s)) (after_axis (axis_of (drop i s)) (drop i s)) → pec_first (drop i s) ≡ steps_of (four_at s i)
    unfolding after_axis
    moves m =
        let k : get_or s i 0 / 128 < 2 = omega (arith, small i) in
        let n : 2 + four_at s i / 128 % 2 + past_step (four_at s i) / 128 % 2 ≡ 1 + get_or s i 0 / 128 + (1 + get_or s next 0 / 128)
        = rw (top-is _ _ word.first, top-is _ _ past.0) (omega arith) in
        rw (n, past.0, past.1, word.first, word.second)
        (m
        ∙ rw (step_is s i (omega arith) (small i), drop-drop (1 + get_or s i 0 / 128) i s, step_is s next (omega arith) (small next))
        (both_is (plain_step (get_or s i 0)) (plain_step (get_or s next 0)) _ _ _ _))

    pub word-steps : (four_at s i % 65536 ≡ 0x00FF → ⊥) → (four_at s i % 65536 ≡ 0xB0FE → ⊥) → pec_first (drop i s) ≡ steps_of (four_at s i)
    word-steps e f = moves (pec-move s i (omega arith) (λ p q. e (omega (arith, word.low_two))) (λ p q. f (omega (arith, word.low_two))))

    pub word_low : four_at s i % 256 < 0xFE → pec_first (drop i s) ≡ steps_of (four_at s i)
    word_low l = moves (pec-move s i (omega arith) (λ p q. omega (arith, word.first)) (λ p q. omega (arith, word.first)))
