-- One number less is left.
use Prim.Native.Nat.{ℕ, ◌+◌, ◌-◌, ◌≤◌}
use mathlib.Core.Path.{◌≡◌}
use native.Mathlib.Omega.{arith}
use lib.ListN.{replicate}
use Rattle.rules.specs.Vocabulary.{little, joined}
use Rattle.rules.specs.Jef.{words}
use Rattle.laws.specs.Buffers.{writing_start, writing-room, writing_more, writing-done}
use Rattle.laws.specs.Little.{length-little}
use Rattle.jef.proofs.Words.{same_more, length-same}
use Rattle.jef.proofs.put_kinds.Goals as goal

zero-at : (n i : ℕ) → n ≤ i → n - i ≡ 0
zero-at n i h = omega arith

less : (n i : ℕ) → n - i - 1 ≡ n - (i + 1)
less n i = omega arith

pub loop-i-init : goal.loop-i-init
loop-i-init c = let a = c.args in
    let e : a.n - 0 ≡ a.n = omega arith in
    rw e
    (writing_start a.out.now a.at (words (replicate a.n 0x0D)) (omega (arith, length-same a.n 0x0D)))

pub put_word-to-requires : goal.put_word-to-requires
put_word-to-requires c = let l = c.loop-i in let left = c.args.n - l.i in
    omega (arith, writing-room (little 4 0x0D) (words (replicate (left - 1) 0x0D)) l.invariant (same_more left 0x0D (omega arith)), length-little 4 0x0D)

pub loop-i-preserved : goal.loop-i-preserved
loop-i-preserved c = let l = c.loop-i in let left = c.args.n - l.i in
    rw (less c.args.n l.i) at (writing_more {vs = little 4 0x0D} l.invariant (same_more left 0x0D (omega arith)) c.put_word-to.ensures)

pub shape_of-out : goal.shape_of-out
shape_of-out c = c.loop-i.invariant.same

pub returns : goal.returns
unfolding words joined
returns c = writing-done c.loop-i.invariant (rw (zero-at c.args.n c.loop-i.i c.loop-i-test.false))
