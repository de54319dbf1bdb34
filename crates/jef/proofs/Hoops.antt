-- The distances to a hoop's edges, where a design fits it and where not. Assumes nothing.
use Prim.Native.Nat.{ℕ, ◌-◌, ◌≤◌, ◌<◌}
use mathlib.Core.Path.{◌≡◌, sym, ap}
use mathlib.Core.Bool.{true, false, ◌&&◌}
use mathlib.Core.List.{List, [], ◌∷◌, ◌++◌, append-nil, append_assoc}
use native.Mathlib.Omega.{arith}
use native.Mathlib.Nat.{mod-eq_of_lt}
use lib.IntN.{ℤ, pos, negsuc, ◌-ℤ◌}
use lib.Signed.{le_z}
use lib.ListN.{length, replicate, length-append}
use Rattle.rules.specs.Vocabulary.{bits_of, little, joined}
use Rattle.rules.specs.Jef.{word, half_up, edges, words}
use Rattle.laws.specs.Ints.{eq-sub, sub-law, true-le, false-le}
use Rattle.laws.specs.Little.{length-little}
use Rattle.laws.specs.Tests.{pick-false, pick-both, and-no-right}

word-pos : (n : ℕ) → n < 4294967296 → word (pos n) ≡ little 4 n
unfolding word bits_of
word-pos n h = ap (little 4) (mod-eq_of_lt h)

length-word : (z : ℤ) → length (word z) ≡ 4
unfolding word
length-word z = length-little 4 (bits_of 31 z)

-- a distance: e - x where x fits, negative where not
inside : (e x : ℕ) → x ≤ e → pos e -ℤ pos x ≡ pos (e - x)
inside e x h = sym (eq-sub (pos (e - x)) (pos e) (pos x) (omega arith))

no_less : (e x : ℕ) → x ≤ e → le_z (pos 0) (pos e -ℤ pos x) ≡ true
no_less e x h = true-le (pos 0) (pos e -ℤ pos x) (omega (arith, sub-law (pos e) (pos x)))

less : (e x : ℕ) → e < x → le_z (pos 0) (pos e -ℤ pos x) ≡ false
less e x h = false-le (pos 0) (pos e -ℤ pos x) (omega (arith, sub-law (pos e) (pos x)))

four : (a b c d : List ℕ) → length a ≡ 4 → length b ≡ 4 → length c ≡ 4 → length d ≡ 4 → length (a ++ b ++ c ++ d) ≡ 16
four a b c d p q r s = simp (length-append, p, q, r, s)

module _ (ex ey w h : ℕ) where
  pub length-edges : length (edges ex ey w h) ≡ 16
  unfolding edges
  length-edges =
      let x : ℤ = pos ex -ℤ pos (half_up w) in
      let y : ℤ = pos ey -ℤ pos (half_up h) in
      let n : ℤ = negsuc 0 in
      pick-both (λ (s : List ℕ). length s ≡ 16) (le_z (pos 0) x && le_z (pos 0) y)
      (four (word x) (word y) (word x) (word y) (length-word x) (length-word y) (length-word x) (length-word y))
      (four (word n) (word n) (word n) (word n) (length-word n) (length-word n) (length-word n) (length-word n))

  module _ {x y : ℕ} (p : x ≡ half_up w) (q : y ≡ half_up h) where
    pub edges-inside : x ≤ ex → y ≤ ey → ex < 4294967296 → ey < 4294967296
        → words ((ex - x) ∷ (ey - y) ∷ (ex - x) ∷ (ey - y) ∷ []) ≡ edges ex ey w h
    unfolding edges words joined
    edges-inside k l m n =
        rw (← p, ← q, no_less ex x k, no_less ey y l, inside ex x k, inside ey y l, word-pos (ex - x) (omega arith), word-pos (ey - y) (omega arith)) (simp (append_assoc, append-nil))

    pub too_wide : ex < x → replicate 16 0xFF ≡ edges ex ey w h
    unfolding edges word bits_of little
    too_wide k = rw (← p, ← q, less ex x k)

    pub too-high : ey < y → replicate 16 0xFF ≡ edges ex ey w h
    unfolding edges word bits_of little
    too-high k = sym (pick-false _ _ (and-no-right (le_z (pos 0) (pos ex -ℤ pos (half_up w))) (le_z (pos 0) (pos ey -ℤ pos (half_up h))) (rw (← q) (less ey y k))))
