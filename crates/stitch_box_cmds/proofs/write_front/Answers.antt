-- By the test of the length.
use Rattle.std.proofs.Common.{refl}
use borrow.Author.Tests.{lt-ltb, le-ltb}
use Rattle.stitch_box_cmds.proofs.write_front.Goals as goal

pub returns-then-m-n : goal.returns-then-m-n
returns-then-m-n c = rw (lt-ltb _ _ c.if-m-n.true) (refl, refl)

pub returns : goal.returns
returns c = rw (le-ltb _ _ c.if-m-n.false) c.write_stitch_file.ensures
