-- a kind from 4 on is an end
use borrow.Author.Rules.{rules}
use Prim.Native.Nat.{ℕ, zero, suc}
use Rattle.rules.specs.declared.Op.TheVariants.{End}
use mathlib.Core.Path.{◌≡◌, refl}
use Rattle.rules.specs.Lists.{op_of}
use Rattle.formats.proofs.op_of.Goals as goal

last : (k : ℕ) → (k ≡ 0 → ⊥) → (k ≡ 1 → ⊥) → (k ≡ 2 → ⊥) → (k ≡ 3 → ⊥) → End ≡ op_of k
unfolding op_of
last zero a b d e = absurd (a refl)
last (suc zero) a b d e = absurd (b refl)
last (suc (suc zero)) a b d e = absurd (d refl)
last (suc (suc (suc zero))) a b d e = absurd (e refl)
last (suc (suc (suc (suc k)))) a b d e = refl

pub returns-in-0 : goal.returns-in-0
unfolding op_of
returns-in-0 c = search rules

pub returns-in-1 : goal.returns-in-1
unfolding op_of
returns-in-1 c = search rules

pub returns-in-2 : goal.returns-in-2
unfolding op_of
returns-in-2 c = search rules

pub returns-in-3 : goal.returns-in-3
unfolding op_of
returns-in-3 c = search rules

pub returns-in_default : goal.returns-in_default
unfolding op_of
returns-in_default c = last c.args.kind c.in_default.in_default-own.rest.0.0.0.1 c.in_default.in_default-own.rest.0.0.1 c.in_default.in_default-own.rest.0.1 c.in_default.in_default-own.rest.1
