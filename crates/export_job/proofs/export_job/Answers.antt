-- The name decides, then the list, and then the room.
use Rattle.std.specs.Prelude.{◌≡◌, Err}
use borrow.Author.Rules.{rules}
use Rattle.export_job.proofs.Exports.{name-long, not-exported, exported, known}
use Rattle.export_job.proofs.export_job.Goals as goal

pub returns-then-name-gt-LONGEST_NAME : goal.returns-then-name-gt-LONGEST_NAME
returns-then-name-gt-LONGEST_NAME c = name-long c.if-name-gt-LONGEST_NAME.true

pub export_accepted-requires : goal.export_accepted-requires
export_accepted-requires c =
    let g = known _ _ _ _ c.check_commands.ensures c.in_ok-check_commands.was in (g.0, (c.if-name-gt-LONGEST_NAME.false, g.1))

pub returns : goal.returns
returns c = search (exported, c.in_ok-check_commands.was)

pub returns-in_err-check_commands : goal.returns-in_err-check_commands
returns-in_err-check_commands c =
    let e : c.from_residual.result ≡ Err c.in_err-check_commands.field-0.0 = search rules in
    rw e (not-exported c.if-name-gt-LONGEST_NAME.false c.check_commands.ensures c.in_err-check_commands.was)
