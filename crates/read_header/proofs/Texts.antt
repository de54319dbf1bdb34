-- Laws on parts of a text and on the blanks at its ends. Assumes nothing.
use Prim.Native.Nat.{ℕ, zero, suc, ◌+◌, ◌-◌, ◌≤◌, ◌<◌}
use mathlib.Core.Path.{◌≡◌, refl, ap, ◌∙◌}
use mathlib.Core.Bool.{true, false}
use mathlib.Core.List.{List, [], ◌∷◌, ◌++◌}
use native.Mathlib.Omega.{arith}
use lib.ListN.{length, get_or, take, drop, length-drop}
use lib.Seq.{take-suc, take_all, take-nil}
use Rattle.rules.specs.Text.{blank, trim_end, before_end}

-- a part of a part
pub drop-take : (m n : ℕ) (s : List ℕ) → drop m (take (m + n) s) ≡ take n (drop m s)
drop-take zero n s = let p : 0 + n ≡ n = omega arith in ap (λ (k : ℕ). take k s) p
drop-take (suc m) n [] = rw (take-nil (suc m + n), take-nil n)
drop-take (suc m) n (b ∷ s) = let p : suc m + n ≡ suc (m + n) = omega arith in ap (λ (k : ℕ). drop (suc m) (take k (b ∷ s))) p ∙ drop-take m n s

-- a part that runs past the end
pub take_rest : (n from : ℕ) (s : List ℕ) → length s - from ≤ n → take n (drop from s) ≡ drop from s
take_rest n from s h = take_all n (drop from s) (omega (arith, length-drop from s))

-- ---- the end

snoc-blank : (s : List ℕ) (b : ℕ) → blank b ≡ true → trim_end (s ++ (b ∷ [])) ≡ trim_end s
unfolding trim_end before_end
snoc-blank [] b e = rw e
snoc-blank (c ∷ s) b e = ap (before_end c) (snoc-blank s b e)

snoc-kept : (s : List ℕ) (b : ℕ) → blank b ≡ false → trim_end (s ++ (b ∷ [])) ≡ s ++ (b ∷ [])
unfolding trim_end before_end
snoc-kept [] b e = rw e
snoc-kept (c ∷ s) b e = ap (before_end c) (snoc-kept s b e) ∙ before c s b
  where
    before : (c : ℕ) (s : List ℕ) (b : ℕ) → before_end c (s ++ (b ∷ [])) ≡ c ∷ s ++ (b ∷ [])
    before c [] b = refl
    before c (d ∷ s) b = refl

take_last : (s : List ℕ) (e : ℕ) → 0 < e → e ≤ length s → take e s ≡ take (e - 1) s ++ (get_or s (e - 1) 0 ∷ [])
take_last s e h l = let p : e ≡ suc (e - 1) = omega arith in ap (λ (n : ℕ). take n s) p ∙ take-suc s (e - 1) 0 (omega arith)

pub end_more : (s : List ℕ) (e : ℕ) → 0 < e → e ≤ length s → blank (get_or s (e - 1) 0) ≡ true → trim_end (take e s) ≡ trim_end (take (e - 1) s)
end_more s e h l b = ap trim_end (take_last s e h l) ∙ snoc-blank (take (e - 1) s) (get_or s (e - 1) 0) b

pub end-here : (s : List ℕ) (e : ℕ) → 0 < e → e ≤ length s → blank (get_or s (e - 1) 0) ≡ false → trim_end (take e s) ≡ take e s
end-here s e h l b = rw (take_last s e h l) (snoc-kept (take (e - 1) s) (get_or s (e - 1) 0) b)

pub end_none : (s : List ℕ) (e : ℕ) → e ≤ 0 → trim_end (take e s) ≡ take e s
unfolding trim_end
end_none s zero h = refl
end_none s (suc e) h = absurd (omega arith)
