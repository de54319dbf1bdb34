-- What is gathered tells the commands before k.
use mathlib.Core.Path.{◌≡◌}
use Prim.Native.Nat.{◌+◌}
use native.Mathlib.Omega.{arith}
use Rattle.laws.specs.Tests.{and_left, and_right}
use Rattle.laws.specs.Listing.{length-commands}
use Rattle.pec.proofs.Runs.{shorts-none, shorts-more}
use Rattle.pec.proofs.are_short.Goals as goal

pub loop-k-init : goal.loop-k-init
loop-k-init c = (omega arith, (omega arith, λ e. shorts-none _ _ _ _))

pub overflow_add-k-end : goal.overflow_add-k-end
overflow_add-k-end c = let a = c.args in omega (arith, length-commands a.xs.now a.ys.now a.kinds.now)

pub is_short_at-all-requires : goal.is_short_at-all-requires
is_short_at-all-requires c = record { i_nonzero = (omega arith, omega arith); kinds_value = c.requires.kinds_value }

pub loop-k-preserved : goal.loop-k-preserved
loop-k-preserved c =
    let a = c.args in
    let loop = c.loop-k in
    let here = c.is_short_at-all in (
      omega arith,
      (
        omega arith,
        λ e. shorts-more a.xs.now a.ys.now a.kinds.now a.i loop.k
            (loop.invariant.1.1 (and_left loop.all here.result e))
            (here.ensures (and_right loop.all here.result e)),
      ),
    )

pub returns : goal.returns
returns c =
    let f : c.loop-k.k ≡ c.args.i + 8 = omega arith in
    λ e. rw f at (c.loop-k.invariant.1.1 e)
