-- DST steps by cases on each pair of bits.
use Rattle.std.specs.Prelude.{ℕ, ◌*◌, Bool, true, false, eqb, ℤ, pos, neg_ℤ, ◌+ℤ◌, ◌*ℤ◌}
use Rattle.rules.specs.Vocabulary.{pick}
use Rattle.rules.specs.Dst.{dst_x, dst_y}

-- a pair's digit, from its two bits: neither or both, plus, minus
unfoldable pub pair_digit : ℕ → ℕ → ℤ
pair_digit plus minus = pick (eqb plus minus) (pos 0) (pick (eqb plus 1) (pos 1) (neg_ℤ (pos 1)))

-- a step from its digits
unfoldable pub weighed : ℤ → ℤ → ℤ → ℤ → ℤ → ℤ
weighed d81 d27 d9 d3 d1 = d81 *ℤ pos 81 +ℤ d27 *ℤ pos 27 +ℤ d9 *ℤ pos 9 +ℤ d3 *ℤ pos 3 +ℤ d1

-- along x, or along y
abbrev pub dst_step : Bool → ℕ → ℕ → ℕ → ℤ
dst_step true a b c = dst_y a b c
dst_step false a b c = dst_x a b c

-- four bits of a byte as they stand in it: x has the low four, y the high four
abbrev pub axis_bits : Bool → ℕ → ℕ
axis_bits true n = n * 16
axis_bits false n = n
