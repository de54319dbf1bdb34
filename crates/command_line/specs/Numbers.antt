-- A whole number of 32 signed bits as an argument gives it: digits, behind a minus sign if it is below zero.
use Rattle.std.specs.Prelude.{ℕ, ◌+◌, ◌-◌, ◌*◌, Bool, ◌&&◌, not, List, [], ◌∷◌, leb, eqb, pos, neg_ℤ, length, drop, Option, Some, None, ℤ}
use Rattle.rules.specs.Text.{begins}
use Rattle.rules.specs.Vocabulary.{pick, all}

unfoldable pub is_digit : ℕ → Bool
is_digit b = leb 0x30 b && leb b 0x39

-- the number that digits make behind n
unfoldable pub decimal_from : ℕ → List ℕ → ℕ
decimal_from n [] = n
decimal_from n (d ∷ ds) = decimal_from (10 * n + (d - 0x30)) ds

-- one digit at least and nothing else, for a number up to `most`
unfoldable pub digits_up_to : ℕ → List ℕ → Bool
digits_up_to most s = not (eqb (length s) 0) && (all is_digit s && leb (decimal_from 0 s) most)

unfoldable pub from_zero : List ℕ → Option ℤ
from_zero s = pick (digits_up_to 2147483647 s) (Some (pos (decimal_from 0 s))) None

unfoldable pub below_zero : List ℕ → Option ℤ
below_zero s = pick (digits_up_to 2147483648 s) (Some (neg_ℤ (pos (decimal_from 0 s)))) None

unfoldable pub number_in : List ℕ → Option ℤ
number_in s = pick (begins (0x2D ∷ []) s) (below_zero (drop 1 s)) (from_zero s)
