-- of equal distances the later or the first
use Rattle.formats.proofs.takes.Goals as goal

pub returns-then-later : goal.returns-then-later
returns-then-later c = rw c.if-later.true

pub returns : goal.returns
returns c = rw c.if-later.false
