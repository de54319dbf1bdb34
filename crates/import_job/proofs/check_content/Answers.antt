-- By the tag.
use Rattle.std.proofs.Common.{arith}
use Rattle.import_job.proofs.Contents.{rows-unknown, rows-known, thread-walk, name-walk}
use Rattle.import_job.proofs.check_content.Goals as goal

pub returns-then-t : goal.returns-then-t
returns-then-t c = rows-unknown c.args.w _ _ _ c.in-3.is c.with_rows-t.ensures c.if-t.true

pub returns-else-t : goal.returns-else-t
returns-else-t c = rows-known c.args.w _ _ _ c.in-3.is c.with_rows-t.ensures c.if-t.false

pub returns-in-2 : goal.returns-in-2
returns-in-2 c = thread-walk c.args.w _ _ _ (omega arith) c.requires.unknown_value.0 c.in-2.is

pub returns-in_default : goal.returns-in_default
returns-in_default c = name-walk c.args.w _ _ _ (omega arith) c.requires.unknown_value.0 (omega arith)
