-- The tests of the definition, in its order.
use borrow.Author.Tests.{eq-eqb, ne_eqb}
use mir.Facts.{to_z-of_z}
use Rattle.rules.specs.Exp.{control}
use Rattle.read_records.proofs.pair.controlled.Goals as goal

pub returns-then-c-eq128 : goal.returns-then-c-eq128
unfolding control
returns-then-c-eq128 c = simp (eq-eqb _ _ c.if-c-eq128.true)

pub returns-then-c-eq1 : goal.returns-then-c-eq1
unfolding control
returns-then-c-eq1 c =
    simp (ne_eqb _ _ c.if-c-eq128.false, eq-eqb _ _ c.if-c-eq1.true, to_z-of_z c.ranges.dx, to_z-of_z c.ranges.dy)

pub returns-then-c-eq2 : goal.returns-then-c-eq2
unfolding control
returns-then-c-eq2 c =
    simp (
      ne_eqb _ _ c.if-c-eq128.false,
      ne_eqb _ _ c.if-c-eq1.false,
      eq-eqb _ _ c.if-c-eq2.true,
      c.second.ensures,
      to_z-of_z c.ranges.dx,
      to_z-of_z c.ranges.dy,
    )

pub returns-then-c-eq4 : goal.returns-then-c-eq4
unfolding control
returns-then-c-eq4 c =
    simp (
      ne_eqb _ _ c.if-c-eq128.false,
      ne_eqb _ _ c.if-c-eq1.false,
      ne_eqb _ _ c.if-c-eq2.false,
      eq-eqb _ _ c.if-c-eq4.true,
      to_z-of_z c.ranges.dx,
      to_z-of_z c.ranges.dy,
    )

pub returns : goal.returns
unfolding control
returns c =
    simp (ne_eqb _ _ c.if-c-eq128.false, ne_eqb _ _ c.if-c-eq1.false, ne_eqb _ _ c.if-c-eq2.false, ne_eqb _ _ c.if-c-eq4.false)
