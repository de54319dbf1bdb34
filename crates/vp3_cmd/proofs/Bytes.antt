-- Numbers of two and of four bytes as code divides them, and a text in UTF-16 byte by byte. Assumes nothing.
use Prim.Native.Nat.{ℕ, ◌+◌, ◌*◌, ◌/◌, ◌%◌, ◌<◌}
use mathlib.Core.Path.{◌≡◌, refl, ap}
use mathlib.Core.List.{List, [], ◌∷◌, ◌++◌, map}
use native.Mathlib.Omega.{arith}
use lib.ListN.{length, drop, get_or}
use Rattle.rules.specs.Vocabulary.{joined}
use Rattle.rules.specs.Vp3.{big}
use Rattle.laws.specs.Decimals.{text-more}

over-one : (v : ℕ) → v / 1 ≡ v
over-one v = omega arith

pub big-two : (v : ℕ) → v / 256 % 256 ∷ v % 256 ∷ [] ≡ big 2 v
unfolding big
big-two v = rw (over-one v)

pub big-four : (v : ℕ) → v / 16777216 % 256 ∷ v / 65536 % 256 ∷ v / 256 % 256 ∷ v % 256 ∷ [] ≡ big 4 v
unfolding big
big-four v = rw (over-one v)

abbrev pub wide : List ℕ → List ℕ
wide s = joined (map (λ (b : ℕ). 0x00 ∷ b ∷ []) s)

pub length-wide : (s : List ℕ) → length (wide s) ≡ 2 * length s
unfolding joined
length-wide [] = refl
length-wide (b ∷ s) = omega (arith, length-wide s)

pub wide-more : (s : List ℕ) (i : ℕ) → i < length s → wide (drop i s) ≡ (0x00 ∷ get_or s i 0 ∷ []) ++ wide (drop (i + 1) s)
unfolding joined
wide-more s i h = ap wide (text-more s i 0 h)
