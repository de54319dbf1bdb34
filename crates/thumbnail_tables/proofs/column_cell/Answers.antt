-- a bit of a byte
use Rattle.std.proofs.Common.{◌≡◌, ℕ, ◌*◌, ◌%◌, ◌^◌, ◌<◌, ◌≤◌, ◌∙◌, one-mul, arith, lit<, pow_mono, shl_exact, le-ltb, lt-ltb}
use Rattle.thumbnail_tables.specs.Cells.{column_cell}
use Rattle.thumbnail_tables.proofs.column_cell.Goals as goal

bit-of : (k : ℕ) → k < 8 → 1 * 2 ^ k % 18446744073709551616 ≡ 2 ^ k
bit-of k h = shl_exact 1 k 64 (lit< tt) (omega arith) ∙ one-mul (2 ^ k)

bit_le : (k : ℕ) → k < 8 → 2 ^ k ≤ 128
bit_le k h = let l : k ≤ 7 = omega arith in pow_mono l

pub returns-then-x-ge48 : goal.returns-then-x-ge48
unfolding column_cell
returns-then-x-ge48 c = simp (le-ltb _ _ c.if-x-ge48.true)

pub overflow_mul-result : goal.overflow_mul-result
overflow_mul-result c = rw (bit-of (c.args.x % 8) (omega arith)) (omega (arith, bit_le (c.args.x % 8) (omega arith)))

pub overflow_add-result : goal.overflow_add-result
overflow_add-result c = rw (bit-of (c.args.x % 8) (omega arith)) (omega (arith, bit_le (c.args.x % 8) (omega arith)))

pub overflow_cast-result : goal.overflow_cast-result
overflow_cast-result c = rw (bit-of (c.args.x % 8) (omega arith)) (omega (arith, bit_le (c.args.x % 8) (omega arith)))

pub returns : goal.returns
unfolding column_cell
returns c = simp (lt-ltb _ _ c.if-x-ge48.false, bit-of (c.args.x % 8) (omega arith))
