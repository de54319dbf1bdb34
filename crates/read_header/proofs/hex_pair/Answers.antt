-- A pair of digits. Assumes nothing.
use borrow.Author.Tests.{lt-ltb, le-ltb, eq-eqb, ne_eqb}
use Rattle.rules.specs.Dst.{hex_pair}
use borrow.Author.Rules.{rules}
use Rattle.read_header.proofs.hex_pair.Goals as goal

pub hex_digit-low-requires : goal.hex_digit-low-requires
unfolding hex_pair
hex_digit-low-requires c = search rules

pub returns-then-low-ge16 : goal.returns-then-low-ge16
unfolding hex_pair
returns-then-low-ge16 c = rw (← c.hex_digit-low.ensures.0, le-ltb _ _ c.if-low-ge16.true)

pub returns-then-a-eq43 : goal.returns-then-a-eq43
unfolding hex_pair
returns-then-a-eq43 c = rw (← c.hex_digit-low.ensures.0, lt-ltb _ _ c.if-low-ge16.false, eq-eqb _ _ c.if-a-eq43.true)

pub hex_digit-high-requires : goal.hex_digit-high-requires
unfolding hex_pair
hex_digit-high-requires c = search rules

pub returns-then-high-ge16 : goal.returns-then-high-ge16
unfolding hex_pair
returns-then-high-ge16 c =
    rw (← c.hex_digit-low.ensures.0, lt-ltb _ _ c.if-low-ge16.false, ne_eqb _ _ c.if-a-eq43.false)
    (rw (← c.hex_digit-high.ensures.0, le-ltb _ _ c.if-high-ge16.true))

pub returns : goal.returns
unfolding hex_pair
returns c =
    rw (← c.hex_digit-low.ensures.0, lt-ltb _ _ c.if-low-ge16.false, ne_eqb _ _ c.if-a-eq43.false)
    (rw (← c.hex_digit-high.ensures.0, lt-ltb _ _ c.if-high-ge16.false))
