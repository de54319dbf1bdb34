-- One column less is left.
use Prim.Native.Nat.{ℕ, ◌-◌, ◌≤◌}
use mathlib.Core.Path.{◌≡◌}
use mathlib.Core.List.{[], ◌∷◌}
use native.Mathlib.Omega.{arith}
use Rattle.laws.specs.Buffers.{writing_start, writing-room, writing_more, writing-done}
use Rattle.rules.specs.Vocabulary.{digit_at, right}
use Rattle.laws.specs.Decimals.{right-more, length-right}
use Rattle.emit.proofs.put_right.Goals as goal

zero-at : (n : ℕ) → n ≤ 0 → n ≡ 0
zero-at n h = omega arith

pub loop-k-init : goal.loop-k-init
loop-k-init c = let a = c.args in
    writing_start a.out.now a.at (right a.n a.v) (omega (arith, c.requires, length-right a.n a.v))

pub put-to-requires : goal.put-to-requires
put-to-requires c = let loop = c.loop-k in
    let a = c.args in
    writing-room (digit_at (loop.k - 1) a.v ∷ []) (right (loop.k - 1) a.v) loop.invariant (right-more loop.k a.v c.loop-k-test.true)

pub loop-k-preserved : goal.loop-k-preserved
loop-k-preserved c = let loop = c.loop-k in
    let a = c.args in
    writing_more {vs = digit_at (loop.k - 1) a.v ∷ []} loop.invariant (right-more loop.k a.v c.loop-k-test.true)
    (rw c.digit_at.ensures at c.put-to.ensures)

pub returns : goal.returns
unfolding right
returns c = writing-done c.loop-k.invariant (rw (zero-at c.loop-k.k c.loop-k-test.false))
