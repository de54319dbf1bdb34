-- Commands of one kind that follow each other, and the places of stitches.
use Rattle.std.specs.Prelude.{ℕ, zero, suc, ◌≤◌, ◌<◌, ◌≡◌, List, [], ◌++◌, ℤ, pos, get_or}
use Rattle.rules.specs.Pes.{pes_point}

-- from i to before j
abbrev pub Alike : List ℕ → ℕ → ℕ → ℕ → Type 0
Alike ks kind i j = (k : ℕ) → i ≤ k → k < j → get_or ks k 0 ≡ kind

-- the bytes of n places from i on
unfoldable pub points : ℤ → ℤ → List ℤ → List ℤ → ℕ → ℕ → List ℕ
points left bottom xs ys i zero = []
points left bottom xs ys i (suc n) = pes_point left bottom (get_or xs i (pos 0)) (get_or ys i (pos 0)) ++ points left bottom xs ys (suc i) n
