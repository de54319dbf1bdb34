-- Kinds 0 and 1, stitch and jump, may move; the others stand.
use Prim.Native.Nat.{ℕ, zero, suc}
use mathlib.Core.Path.{◌≡◌, refl}
use native.Mathlib.Omega.{arith}
use borrow.Author.Tests.{lt-ltb}
use lib.Dec.{ltb}
use Rattle.rules.specs.Lists.{op_of, stands}
use Rattle.write_refusals.proofs.is_standing.Goals as goal

by_kind : (k : ℕ) → ltb 1 k ≡ stands (op_of k)
unfolding op_of stands
by_kind zero = refl
by_kind (suc zero) = refl
by_kind (suc (suc zero)) = refl
by_kind (suc (suc (suc zero))) = refl
by_kind (suc (suc (suc (suc n)))) = lt-ltb 1 (suc (suc (suc (suc n)))) (omega arith)

pub returns : goal.returns
returns c = by_kind c.args.kind
