-- The checks decide, and then the room.
use Rattle.std.specs.Prelude.{◌≡◌, Err}
use Rattle.rules.specs.Files.{file_of, distance_of}
use Rattle.emit.proofs.Writes.{fine, wrote, not-wrote}
use borrow.Author.Rules.{rules}
use Rattle.exp.proofs.write_exp.Goals as goal

pub check_list-requires : goal.check_list-requires
unfolding file_of distance_of
check_list-requires c = search rules

pub write_accepted-requires : goal.write_accepted-requires
write_accepted-requires c = let g = fine c.check_list.ensures c.in_ok-check_list.was in (g.long, g.steps)

pub returns : goal.returns
unfolding file_of distance_of
returns c = wrote c.check_list.ensures c.in_ok-check_list.was c.write_accepted.ensures

pub returns-in_err-check_list : goal.returns-in_err-check_list
unfolding file_of distance_of
returns-in_err-check_list c =
    let e : c.from_residual.result ≡ Err c.in_err-check_list.field-0.0 = search rules in
    rw e (not-wrote c.check_list.ensures c.in_err-check_list.was)
