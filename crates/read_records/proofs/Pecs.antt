-- PEC: its steps and records, by the tests that the code makes. Assumes nothing.
use Prim.Native.Nat.{ℕ, ◌+◌, ◌-◌, ◌*◌, ◌/◌, ◌%◌, ◌≤◌, ◌<◌}
use mathlib.Core.Path.{◌≡◌, refl, sym, ◌∙◌}
use mathlib.Core.Bool.{Bool, true, false, not, ◌&&◌, ◌||◌}
use mathlib.Core.List.{List, [], ◌∷◌}
use native.Mathlib.Omega.{arith}
use borrow.Author.Tests.{lt-ltb, le-ltb, eq-eqb, eqb-true}
use lib.Dec.{eqb, ltb}
use lib.ListN.{length, get_or, drop, length-drop}
use lib.Seq.{drop-drop}
use lib.IntN.{ℤ, pos}
use Rattle.rules.specs.Vocabulary.{pick, signed}
use Rattle.rules.specs.Pec.{Axis, axis, none, long_axis, axis_of, after_axis, both_axes, starts, pec_change, pec_first}
use Rattle.rules.specs.declared.Record.TheVariants.{StitchBy, JumpBy, ChangeBy, Finish}
use Rattle.laws.specs.Listing.{list-more, list-end}
use Rattle.laws.specs.Tests.{by-test, and_left, and_right}
use Rattle.read_records.proofs.Parts.{drop-two}

-- ---- one step

module _ (s : List ℕ) (i : ℕ) where
  pub axis-end : length s ≤ i → axis_of (drop i s) ≡ none
  unfolding axis_of
  axis-end h = rw (list-end s i h)

  pub axis-short : i < length s → get_or s i 0 < 128 → axis_of (drop i s) ≡ axis false (signed 6 (get_or s i 0)) 1
  unfolding axis_of
  axis-short h k = rw (list-more s 0 i h, lt-ltb (get_or s i 0) 128 k)

  pub axis-cut : i < length s → 128 ≤ get_or s i 0 → length s < i + 2 → axis_of (drop i s) ≡ none
  unfolding axis_of long_axis
  axis-cut h k l = rw (list-more s 0 i h, le-ltb (get_or s i 0) 128 k, list-end s (i + 1) (omega arith))

  pub axis-long : i + 1 < length s → 128 ≤ get_or s i 0
      → axis_of (drop i s) ≡ axis (not (eqb (get_or s i 0 / 16 % 4) 0)) (signed 11 (get_or s i 0 % 16 * 256 + get_or s (i + 1) 0)) 2
  unfolding axis_of long_axis
  axis-long h k = rw (drop-two s i h, le-ltb (get_or s i 0) 128 k)

abbrev size_of : Axis → ℕ
size_of none = 0
size_of (axis j z n) = n

size-le : (l : List ℕ) → size_of (axis_of l) ≤ 2
unfolding axis_of long_axis
size-le [] = omega arith
size-le (a ∷ []) = by-test (ltb a 0x80) (λ e. rw e (omega arith)) (λ e. rw e (omega arith))
size-le (a ∷ b ∷ l) = by-test (ltb a 0x80) (λ e. rw e (omega arith)) (λ e. rw e (omega arith))

pub axis-len : (l : List ℕ) {j : Bool} {z : ℤ} {n : ℕ} → axis j z n ≡ axis_of l → n ≤ 2
axis-len l e = rw (sym e) at (size-le l)

-- ---- the first record

short : (l : List ℕ) → length l < 2 → pec_first l ≡ Finish
unfolding pec_first starts axis_of long_axis after_axis both_axes
short [] h = refl
short (a ∷ []) h = by-test (ltb a 0x80) (λ e. rw e) (λ e. rw e)
short (a ∷ b ∷ l) h = absurd (omega arith)

change-is : (l : List ℕ) → pec_change l ≡ pick (ltb (length l) 3) Finish (ChangeBy (pos 0) (pos 0) 3)
unfolding pec_change
change-is [] = refl
change-is (a ∷ []) = refl
change-is (a ∷ b ∷ []) = refl
change-is (a ∷ b ∷ c ∷ l) = rw (le-ltb (length (a ∷ b ∷ c ∷ l)) 3 (omega arith))

module _ (s : List ℕ) (i : ℕ) where
  pub pec-short : length s < i + 2 → pec_first (drop i s) ≡ Finish
  pec-short h = short (drop i s) (omega (arith, length-drop i s))

  module _ (h : i + 1 < length s) where
    begins : (p q : ℕ) → get_or s i 0 ≡ p → get_or s (i + 1) 0 ≡ q → starts p q (drop i s) ≡ true
    unfolding starts
    begins p q e f = rw (drop-two s i h, eq-eqb _ _ e, eq-eqb _ _ f)

    begins-not : (p q : ℕ) → (get_or s i 0 ≡ p → get_or s (i + 1) 0 ≡ q → ⊥) → starts p q (drop i s) ≡ false
    unfolding starts
    begins-not p q n =
        let t : Bool = eqb (get_or s i 0) p in
        let u : Bool = eqb (get_or s (i + 1) 0) q in
        rw (drop-two s i h) (by-test (t && u) (λ e. absurd (n (eqb-true (get_or s i 0) p (and_left t u e)) (eqb-true (get_or s (i + 1) 0) q (and_right t u e)))) (λ e. e))

    -- two bytes as one number
    pub pec-end : get_or s (i + 1) 0 < 256 → get_or s i 0 * 256 + get_or s (i + 1) 0 ≡ 0xFF00 → pec_first (drop i s) ≡ Finish
    unfolding pec_first
    pec-end l e = rw (begins 0xFF 0x00 (omega arith) (omega arith))

    pub pec_change_lem : get_or s (i + 1) 0 < 256 → get_or s i 0 * 256 + get_or s (i + 1) 0 ≡ 0xFEB0
        → pec_first (drop i s) ≡ pick (ltb (length s - i) 3) Finish (ChangeBy (pos 0) (pos 0) 3)
    unfolding pec_first
    pec_change_lem l e =
        rw (begins-not 0xFF 0x00 (λ p q. omega arith), begins 0xFE 0xB0 (omega arith) (omega arith))
        (change-is (drop i s) ∙ rw (length-drop i s))

    pub pec-move : (get_or s i 0 ≡ 0xFF → get_or s (i + 1) 0 ≡ 0x00 → ⊥) → (get_or s i 0 ≡ 0xFE → get_or s (i + 1) 0 ≡ 0xB0 → ⊥)
        → pec_first (drop i s) ≡ both_axes (axis_of (drop i s)) (after_axis (axis_of (drop i s)) (drop i s))
    unfolding pec_first
    pec-move e f = rw (begins-not 0xFF 0x00 e, begins-not 0xFE 0xB0 f)

    module _ (e : get_or s i 0 * 256 + get_or s (i + 1) 0 ≡ 0xFF00 → ⊥) (f : get_or s i 0 * 256 + get_or s (i + 1) 0 ≡ 0xFEB0 → ⊥) where
      moved : pec_first (drop i s) ≡ both_axes (axis_of (drop i s)) (after_axis (axis_of (drop i s)) (drop i s))
      moved = pec-move (λ p q. e (omega arith)) (λ p q. f (omega arith))

      pub pec-no-x : none ≡ axis_of (drop i s) → Finish ≡ pec_first (drop i s)
      unfolding after_axis both_axes
      pec-no-x x = sym (moved ∙ rw (← x))

      module _ {j : Bool} {dx : ℤ} {m : ℕ} (x : axis j dx m ≡ axis_of (drop i s)) where
        pub pec-no-y : none ≡ axis_of (drop (i + m) s) → Finish ≡ pec_first (drop i s)
        unfolding after_axis both_axes
        pec-no-y y = sym (moved ∙ rw (← x, drop-drop m i s, ← y))

        pub pec-both : {k : Bool} {dy : ℤ} {n : ℕ} → axis k dy n ≡ axis_of (drop (i + m) s)
            → pick (j || k) (JumpBy dx dy (m + n)) (StitchBy dx dy (m + n)) ≡ pec_first (drop i s)
        unfolding after_axis both_axes
        pec-both y = sym (moved ∙ rw (← x, drop-drop m i s, ← y))
