-- Three numbers below 256. Assumes nothing.
use borrow.Author.Tests.{lt-ltb, le-ltb}
use Rattle.rules.specs.Dst.{hex_color}
use Rattle.read_header.proofs.hex_color.Goals as goal

pub returns-then-r-ge256 : goal.returns-then-r-ge256
unfolding hex_color
returns-then-r-ge256 c = rw (le-ltb _ _ c.if-r-ge256.true)

pub returns-then-g-ge256 : goal.returns-then-g-ge256
unfolding hex_color
returns-then-g-ge256 c = rw (lt-ltb _ _ c.if-r-ge256.false, le-ltb _ _ c.if-g-ge256.true)

pub returns-then-b-ge256 : goal.returns-then-b-ge256
unfolding hex_color
returns-then-b-ge256 c = rw (lt-ltb _ _ c.if-r-ge256.false, lt-ltb _ _ c.if-g-ge256.false, le-ltb _ _ c.if-b-ge256.true)

pub returns : goal.returns
unfolding hex_color
returns c = rw (lt-ltb _ _ c.if-r-ge256.false, lt-ltb _ _ c.if-g-ge256.false, lt-ltb _ _ c.if-b-ge256.false)
