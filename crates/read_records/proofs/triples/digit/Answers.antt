-- The cases of the definition, in its order.
use borrow.Author.Tests.{eq-eqb, ne_eqb}
use Rattle.read_records.specs.Digits.{pair_digit}
use Rattle.read_records.proofs.triples.digit.Goals as goal

pub returns-then-p-m : goal.returns-then-p-m
unfolding pair_digit
returns-then-p-m c = simp (eq-eqb _ _ c.if-p-m.true)

pub returns-then-p-eq1 : goal.returns-then-p-eq1
unfolding pair_digit
returns-then-p-eq1 c = simp (ne_eqb _ _ c.if-p-m.false, eq-eqb _ _ c.if-p-eq1.true)

pub returns : goal.returns
unfolding pair_digit
returns c = simp (ne_eqb _ _ c.if-p-m.false, ne_eqb _ _ c.if-p-eq1.false)
