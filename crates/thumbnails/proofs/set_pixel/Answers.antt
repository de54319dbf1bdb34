-- Each way out by its tests.
use Prim.Native.Nat.{ℕ, ◌*◌, ◌%◌, ◌^◌, ◌<◌}
use mathlib.Core.Path.{◌≡◌, ◌∙◌}
use native.Mathlib.Nat.{one-mul}
use native.Mathlib.Omega.{arith}
use borrow.Author.Tests.{lt-ltb, le-ltb}
use lib.Dec.{lit<}
use lib.Pow.{shl_exact}
use Rattle.rules.specs.Thumbnails.{pixel}
use Rattle.thumbnails.proofs.set_pixel.Goals as goal

-- a bit of a byte
bit-of : (k : ℕ) → k < 8 → 1 * 2 ^ k % 256 ≡ 2 ^ k
bit-of k h = shl_exact 1 k 8 (lit< tt) (omega arith) ∙ one-mul (2 ^ k)

pub returns-then-x-ge48 : goal.returns-then-x-ge48
unfolding pixel
returns-then-x-ge48 c = simp (le-ltb _ _ c.if-x-ge48.true)

pub returns-then-y-eq0 : goal.returns-then-y-eq0
unfolding pixel
returns-then-y-eq0 c = simp (lt-ltb _ _ c.if-x-ge48.false, c.if-y-eq0.true)

pub returns-then-y-ge38 : goal.returns-then-y-ge38
unfolding pixel
returns-then-y-ge38 c = let y = c.args.y in
    let h : 0 < y = omega arith in
    simp (lt-ltb _ _ c.if-x-ge48.false, lt-ltb 0 y h, le-ltb _ _ c.if-y-ge38.true)

pub returns : goal.returns
unfolding pixel
returns c = let y = c.args.y in
    let x = c.args.x in
    let h : 0 < y = omega arith in
    let l : x % 8 < 8 = omega arith in
    simp (lt-ltb _ _ c.if-x-ge48.false, lt-ltb 0 y h, lt-ltb _ _ c.if-y-ge38.false, bit-of (x % 8) l)
