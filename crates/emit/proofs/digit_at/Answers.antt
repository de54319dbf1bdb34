-- The powers of ten are those of the definition.
use Prim.Native.Nat.{◌^◌}
use native.Mathlib.Omega.{arith}
use borrow.Author.Tests.{lt-ltb, le-ltb}
use Rattle.rules.specs.Vocabulary.{digit_at}
use Rattle.laws.specs.Decimals.{tens}
use Rattle.emit.proofs.digit_at.Goals as goal

pub returns-then-k-eq0 : goal.returns-then-k-eq0
unfolding digit_at
returns-then-k-eq0 c = rw c.if-k-eq0.true (omega arith)

pub returns-then-v-p : goal.returns-then-v-p
unfolding digit_at
returns-then-v-p c = let a = c.args in rw
    (lt-ltb 0 a.k (omega (arith, c.if-k-eq0.false)), lt-ltb a.v (10 ^ a.k) (rw (← tens a.k c.requires) c.if-v-p.true))

pub returns : goal.returns
unfolding digit_at
returns c = let a = c.args in
    let t = tens a.k c.requires in
    rw (lt-ltb 0 a.k (omega (arith, c.if-k-eq0.false)), le-ltb a.v (10 ^ a.k) (rw (← t) c.if-v-p.false), t)
