-- PEC records by whole words: the first byte stands lowest.
use Rattle.std.specs.Prelude.{ℕ, ◌+◌, ◌*◌, ◌/◌, ◌%◌, Bool, ◌||◌, List, ltb, eqb, ℤ, get_or}
use Rattle.std.specs.Int.Bits.{bit_and}
use Rattle.rules.specs.Vocabulary.{pick, signed}

unfoldable pub four_at : List ℕ → ℕ → ℕ
four_at s at = get_or s at 0 + 256 * get_or s (at + 1) 0 + 65536 * get_or s (at + 2) 0 + 16777216 * get_or s (at + 3) 0

abbrev pub eight_at : List ℕ → ℕ → ℕ
eight_at s at = four_at s at + 4294967296 * four_at s (at + 4)

-- what follows the step that stands lowest, which has one byte or two
abbrev pub past_step : ℕ → ℕ
past_step w = pick (ltb (w % 256) 128) (w / 256) (w / 65536)

-- a step that begins with a and goes on with b where it has two bytes
abbrev pub axis_step : ℕ → ℕ → ℤ
axis_step a b = pick (ltb a 128) (signed 6 a) (signed 11 (a % 16 * 256 + b))

-- what the first byte of a step adds; the second byte of a long step is added to it
abbrev pub first_part : ℕ → ℤ
first_part a = pick (ltb a 128) (signed 6 a) (signed 11 (a % 16 * 256))

-- whether a step that begins with a says no jump
abbrev pub plain_step : ℕ → Bool
plain_step a = ltb a 128 || eqb (a / 16 % 4) 0

-- the bits of a mask have the value
abbrev pub masked : ℕ → ℕ → ℕ → Bool
masked mask value v = eqb (bit_and v mask) value
