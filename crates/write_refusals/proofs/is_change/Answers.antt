-- Of the kinds only 3 is a colour change.
use Prim.Native.Nat.{ℕ, zero, suc}
use mathlib.Core.Path.{◌≡◌, refl}
use native.Mathlib.Omega.{arith}
use borrow.Author.Tests.{ne_eqb}
use lib.Dec.{eqb}
use Rattle.rules.specs.Lists.{op_of, is_change}
use Rattle.write_refusals.proofs.is_change.Goals as goal

by_kind : (k : ℕ) → eqb k 3 ≡ is_change (op_of k)
unfolding op_of is_change
by_kind zero = refl
by_kind (suc zero) = refl
by_kind (suc (suc zero)) = refl
by_kind (suc (suc (suc zero))) = refl
by_kind (suc (suc (suc (suc n)))) = ne_eqb (suc (suc (suc (suc n)))) 3 (λ e. omega arith)

pub returns : goal.returns
returns c = by_kind c.args.kind
