-- Tables that a loop is passed.
use Rattle.std.specs.Prelude.{ℕ, ◌+◌, ◌<◌, ◌≡◌, Bool, List, eqb, ℤ, pos, length, get_or}
use Rattle.rules.specs.Vocabulary.{pick}
use Rattle.read_records.specs.Digits.{dst_step, axis_bits}
use Rattle.read_records.specs.Words.{first_part, plain_step}

-- DST: what the four bits of an axis in one byte add to a step: in the first byte, then in the second, then in the third
pub record DstSteps (y : Bool) (t : List ℤ) : Type 0 where
  pub size : length t ≡ 48
  pub first : (n : ℕ) → n < 16 → get_or t n (pos 0) ≡ dst_step y (axis_bits y n) 0 0
  pub second : (n : ℕ) → n < 16 → get_or t (16 + n) (pos 0) ≡ dst_step y 0 (axis_bits y n) 0
  pub third : (n : ℕ) → n < 16 → get_or t (32 + n) (pos 0) ≡ dst_step y 0 0 (axis_bits y n)

-- EXP and JEF: what a control does: 0 sews, 1 jumps, 2 changes colour, 3 ends
abbrev pub kind_of : Bool → ℕ → ℕ
kind_of jef c = pick (eqb c 0x80) 1 (pick (eqb c 0x01) 2 (pick (eqb c 0x02) (pick jef 1 0) (pick (eqb c 0x04) 1 3)))

pub record Kinds (jef : Bool) (t : List ℕ) : Type 0 where
  pub long : length t ≡ 256
  pub kind : (c : ℕ) → c < 256 → get_or t c 0 ≡ kind_of jef c

-- PEC: what each byte adds where a step begins with it, then 1 where such a step says no jump
pub record PecSteps (t : List ℤ) : Type 0 where
  pub size : length t ≡ 512
  pub first : (a : ℕ) → a < 256 → get_or t a (pos 0) ≡ first_part a
  pub plain : (a : ℕ) → a < 256 → get_or t (256 + a) (pos 0) ≡ pick (plain_step a) (pos 1) (pos 0)
