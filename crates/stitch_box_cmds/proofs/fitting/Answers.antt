-- By the test.
use Rattle.std.proofs.Common.{arith}
use borrow.Author.Tests.{lt-ltb, le-ltb}
use Rattle.stitch_box_cmds.proofs.fitting.Goals as goal

pub returns-then-n-gt-MOST_COMMANDS : goal.returns-then-n-gt-MOST_COMMANDS
returns-then-n-gt-MOST_COMMANDS c =
    (rw (lt-ltb 65535 c.args.n (omega (arith, c.if-n-gt-MOST_COMMANDS.true))), omega arith, omega arith)

pub returns : goal.returns
returns c = (rw (le-ltb 65535 c.args.n (omega (arith, c.if-n-gt-MOST_COMMANDS.false))), omega arith, omega arith)
