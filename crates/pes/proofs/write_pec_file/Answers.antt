-- The checks decide, and then the room.
use Rattle.std.specs.Prelude.{◌≡◌, Err}
use borrow.Author.Rules.{rules}
use Rattle.rules.specs.Files.{file_of}
use Rattle.emit.proofs.Writes.{fine, wrote, not-wrote}
use Rattle.pes.proofs.write_pec_file.Goals as goal

pub pec_accepted-requires : goal.pec_accepted-requires
pec_accepted-requires c = let g = fine c.check_list.ensures c.in_ok-check_list.was in (g.long, (g.few, g.steps))

pub returns : goal.returns
unfolding file_of
returns c = wrote c.check_list.ensures c.in_ok-check_list.was c.pec_accepted.ensures

pub returns-in_err-check_list : goal.returns-in_err-check_list
unfolding file_of
returns-in_err-check_list c =
    let e : c.from_residual.result ≡ Err c.in_err-check_list.field-0.0 = search rules in
    rw e (not-wrote c.check_list.ensures c.in_err-check_list.was)
