-- Numbers, text and lines in the header of a file.
-- A port of src/formats/read.rs of zigzag, changed.
use Rattle.std.specs.Prelude.{ℕ, Bool, true, false, ◌&&◌, ◌||◌, List, [], ◌∷◌, ℤ, eqb, leb, length, take, drop}
use Rattle.rules.specs.Vocabulary.{pick, signed, from_little, same_bytes}

-- a signed 32-bit number, low byte first
unfoldable pub word_at : ℕ → List ℕ → ℤ
word_at i s = signed 31 (from_little (take 4 (drop i s)))

unfoldable pub blank : ℕ → Bool
blank b = (leb 0x09 b && leb b 0x0D) || eqb b 0x20

-- Labels and `TC:` texts lose 0x09..0x0D and 0x20 at both ends.
unfoldable pub trim_start : List ℕ → List ℕ
trim_start [] = []
trim_start (b ∷ s) = pick (blank b) (trim_start s) (b ∷ s)

unfoldable pub before_end : ℕ → List ℕ → List ℕ
before_end b [] = pick (blank b) [] (b ∷ [])
before_end b (c ∷ s) = b ∷ c ∷ s

unfoldable pub trim_end : List ℕ → List ℕ
trim_end [] = []
trim_end (b ∷ s) = before_end b (trim_end s)

unfoldable pub trimmed : List ℕ → List ℕ
trimmed s = trim_end (trim_start s)

-- Header lines are cut at 0x0D and 0x0A.
unfoldable pub cut_before : Bool → ℕ → List (List ℕ) → List (List ℕ)
cut_before true b ls = [] ∷ ls
cut_before false b [] = (b ∷ []) ∷ []
cut_before false b (l ∷ ls) = (b ∷ l) ∷ ls

unfoldable pub lines_of : List ℕ → List (List ℕ)
lines_of [] = [] ∷ []
lines_of (b ∷ s) = cut_before (eqb b 0x0D || eqb b 0x0A) b (lines_of s)

unfoldable pub begins : List ℕ → List ℕ → Bool
begins front s = same_bytes (take (length front) s) front
