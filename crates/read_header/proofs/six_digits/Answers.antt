-- Three pairs. Assumes nothing.
use borrow.Author.Tests.{eq-eqb, ne_eqb}
use Rattle.rules.specs.Dst.{six_digits}
use borrow.Author.Rules.{rules}
use Rattle.read_header.proofs.six_digits.Goals as goal

pub returns-then-s-ne6 : goal.returns-then-s-ne6
unfolding six_digits
returns-then-s-ne6 c = rw (ne_eqb _ _ c.if-s-ne6.true)

pub hex_pair-r-requires : goal.hex_pair-r-requires
unfolding six_digits
hex_pair-r-requires c = search rules

pub hex_pair-g-requires : goal.hex_pair-g-requires
unfolding six_digits
hex_pair-g-requires c = search rules

pub hex_pair-b-requires : goal.hex_pair-b-requires
unfolding six_digits
hex_pair-b-requires c = search rules

pub hex_color-requires : goal.hex_color-requires
unfolding six_digits
hex_color-requires c = search rules

pub returns : goal.returns
unfolding six_digits
returns c =
    rw (
      eq-eqb _ _ c.if-s-ne6.false,
      ← c.hex_pair-r.ensures,
      ← c.hex_pair-g.ensures,
      ← c.hex_pair-b.ensures,
    ) c.hex_color.ensures
