-- A file that begins with given bytes. Assumes nothing.
use Prim.Native.Nat.{ℕ, ◌≤◌, ◌<◌}
use mathlib.Core.Path.{◌≡◌, refl}
use mathlib.Core.Bool.{false, ◌&&◌, and-true}
use mathlib.Core.List.{List, [], ◌∷◌}
use native.Mathlib.Omega.{arith}
use lib.Dec.{eqb}
use lib.ListN.{length, get_or}
use Rattle.rules.specs.Vocabulary.{same_bytes}
use Rattle.rules.specs.Text.{begins}
use Rattle.laws.specs.Tests.{and-no-right}

-- it has fewer bytes than are looked for
pub too_few : (wanted s : List ℕ) → length s < length wanted → begins wanted s ≡ false
unfolding begins same_bytes
too_few [] s h = absurd (omega arith)
too_few (b ∷ wanted) [] h = refl
too_few (b ∷ wanted) (x ∷ s) h = and-no-right (eqb x b) (begins wanted s) (too_few wanted s (omega arith))

-- four bytes are looked for one by one
pub by_bytes : (s : List ℕ) (a b c d : ℕ) → 4 ≤ length s
    → begins (a ∷ b ∷ c ∷ d ∷ []) s ≡ (eqb (get_or s 0 0) a && (eqb (get_or s 1 0) b && (eqb (get_or s 2 0) c && eqb (get_or s 3 0) d)))
unfolding begins same_bytes
by_bytes [] a b c d h = absurd (omega arith)
by_bytes (w ∷ []) a b c d h = absurd (omega arith)
by_bytes (w ∷ x ∷ []) a b c d h = absurd (omega arith)
by_bytes (w ∷ x ∷ y ∷ []) a b c d h = absurd (omega arith)
by_bytes (w ∷ x ∷ y ∷ z ∷ s) a b c d h = rw and-true

-- and so are six
pub by-six : (s : List ℕ) (a b c d e f : ℕ) → 6 ≤ length s → begins (a ∷ b ∷ c ∷ d ∷ e ∷ f ∷ []) s
    ≡ (eqb (get_or s 0 0) a && (eqb (get_or s 1 0) b && (eqb (get_or s 2 0) c && (eqb (get_or s 3 0) d && (eqb (get_or s 4 0) e && eqb (get_or s 5 0) f)))))
unfolding begins same_bytes
by-six [] a b c d e f h = absurd (omega arith)
by-six (t ∷ []) a b c d e f h = absurd (omega arith)
by-six (t ∷ u ∷ []) a b c d e f h = absurd (omega arith)
by-six (t ∷ u ∷ v ∷ []) a b c d e f h = absurd (omega arith)
by-six (t ∷ u ∷ v ∷ w ∷ []) a b c d e f h = absurd (omega arith)
by-six (t ∷ u ∷ v ∷ w ∷ x ∷ []) a b c d e f h = absurd (omega arith)
by-six (t ∷ u ∷ v ∷ w ∷ x ∷ y ∷ s) a b c d e f h = rw and-true
