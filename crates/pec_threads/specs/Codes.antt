-- The entry of a colour, and those of the first 256 threads.
use Rattle.std.specs.Prelude.{ℕ, ◌<◌, ◌≡◌, List, length, get_or}
use Rattle.rules.specs.Choices.{nearest_index, pec_palette}
use Rattle.rules.specs.Pec.{found_or}
use Rattle.rules.specs.Pes.{thread_code}
use Rattle.rules.specs.declared.Color.{Color}

abbrev pub code_of : Color → ℕ
code_of t = found_or 1 (nearest_index t pec_palette)

-- number i is the entry for thread i; black's where there are too few threads
pub record Coded (threads : List Color) (codes : List ℕ) : Type 0 where
  pub long : length codes ≡ 256
  pub code : (i : ℕ) → i < 256 → get_or codes i 0 ≡ thread_code threads i
