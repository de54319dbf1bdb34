-- By what the first pass tells, and by the room.
use Rattle.std.proofs.Common.{sym, ◌∙◌}
use Rattle.laws.specs.Exits.{exit}
use Rattle.import_job.proofs.Imported.{sound-is, no-fault, refused, no_room_lem, has_room, imported}
use Rattle.import_job.proofs.import_job.Goals as goal

pub returns-in_err-n : goal.returns-in_err-n
returns-in_err-n c = rw (exit c.from_residual.ensures.1) (refused c.args.job.now _ _ _ _ c.in_err-n.ensures)

pub returns-then-not-is_room : goal.returns-then-not-is_room
returns-then-not-is_room c =
    let n = sound-is c.args.job.now c.in_ok-n.ensures in
    no_room_lem c.args.job.now _ _ _ _ n.0 n.1 (sym c.if-not-is_room.true ∙ c.is_room.ensures)

pub fill_job-requires : goal.fill_job-requires
fill_job-requires c = let a = c.args in
    let n = sound-is a.job.now c.in_ok-n.ensures in
    record {
      job_value = no-fault a.job.now n.0;
      fits = has_room a.job.now a.xs.now a.ys.now a.kinds.now a.threads.now n.0 n.1 (sym c.if-not-is_room.false ∙ c.is_room.ensures);
    }

pub returns : goal.returns
returns c =
    let n = sound-is c.args.job.now c.in_ok-n.ensures in
    imported c.args.job.now _ _ _ _ n.0 n.1 (sym c.if-not-is_room.false ∙ c.is_room.ensures) c.fill_job.ensures
