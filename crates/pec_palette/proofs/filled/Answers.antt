-- An entry past the end changes nothing.
use mathlib.Core.Path.{sym}
use native.Mathlib.Omega.{arith}
use lib.Seq.{set_out}
use Rattle.pec_palette.specs.Entries.{set_at}
use borrow.Author.Rules.{rules}
use Rattle.pec_palette.proofs.filled.Goals as goal

pub returns-in_default : goal.returns-in_default
unfolding set_at
returns-in_default c = search rules

pub returns-then-i-ge65 : goal.returns-then-i-ge65
unfolding set_at
returns-then-i-ge65 c = let a = c.args in
    rw c.in-Some.is (sym (set_out a.entries _ a.s (omega arith)))

pub returns : goal.returns
unfolding set_at
returns c = rw c.in-Some.is
